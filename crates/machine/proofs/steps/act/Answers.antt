-- The values are above the first cell of the activation.
use mathlib.Core.Path.{refl, ap, ◌∙◌}
use native.Mathlib.Omega.{arith}
use native.Mathlib.Nat.{le_refl}
use Rattle.machine.specs.Instructions.{variable}
use Rattle.machine.specs.model.Holding.{lifted, own_of}
use Rattle.machine.proofs.Execs.{strayed, strayed_sound, do_stray, room_no, room_yes, act_done}
use Rattle.machine.proofs.steps.act.Goals as goal

pub downs-requires : goal.downs-requires
downs-requires c = (c.requires.4, c.requires.5, c.requires.6)

pub overflow_add-b : goal.overflow_add-b
overflow_add-b c = omega (arith, c.downs.ensures.upper_bound, c.first_cell-b.ensures.upper_bound)

pub returns-then-b-downs : goal.returns-then-b-downs
returns-then-b-downs c =
    let args = c.args in
    record { output_after = strayed c.stray.ensures _ _ _ _ ∙ do_stray _ args.at _ _ _ _ (room_no args.n args.live args.store.now args.input.now args.output.now args.own.now (c.first_cell-b.ensures.by_index args.live (le_refl _)) _ (omega (arith, c.if-b-downs.true, (c.downs.ensures.by_index args.q args.v (variable args.v))))); sound_g = strayed_sound c.stray.ensures _ _ _ _ refl }

pub way_of-w-requires : goal.way_of-w-requires
way_of-w-requires c = (c.requires.1, c.first_cell-b.ensures.by_index c.args.live (le_refl _), c.first_cell-b.ensures.upper_bound)

pub work-requires : goal.work-requires
work-requires c = (c.requires.0, c.requires.2, c.requires.4, c.requires.5, c.requires.6)

pub returns : goal.returns
returns c =
    let args = c.args in
    record { output_after = c.lift.ensures.o_value c.work.new.store args.input.now c.work.new.output args.own.now ∙ ap (lifted _ _) (c.work.ensures.output_after (own_of args.own.now args.live)) ∙ act_done _ args.at _ _ _ args.q args.v (c.way_of-w.ensures.result_value args.n args.store.now args.input.now args.output.now) args.k (room_yes args.n args.live args.store.now args.input.now args.output.now args.own.now (c.first_cell-b.ensures.by_index args.live (le_refl _)) _ (omega (arith, c.if-b-downs.false, (c.downs.ensures.by_index args.q args.v (variable args.v))))); sound_g = c.lift.ensures.sound_g c.work.new.store args.output.now c.work.new.output args.own.now c.work.ensures.sound_o c.requires.1 }
