-- What names the variable is worked out first.
use mathlib.Core.Path.{refl, ap, ◌∙◌}
use native.Mathlib.Omega.{arith}
use native.Mathlib.Nat.{le_refl}
use Rattle.machine.specs.Data.{load}
use Rattle.machine.specs.Instructions.{variable}
use Rattle.machine.specs.model.Holding.{lifted, own_of}
use Rattle.machine.proofs.Execs.{strayed, strayed_sound, did_quiet, do_stray, room_no, room_yes, load_done}
use Rattle.machine.proofs.steps.load.Goals as goal

pub returns-then-b-n : goal.returns-then-b-n
returns-then-b-n c =
    let args = c.args in
    record { o_after = λ i o. strayed c.stray.ensures _ _ i o ∙ do_stray _ args.at _ _ _ (load args.q (variable args.v)) (room_no args.n args.live args.store.now i o args.own.now (c.first_cell-b.ensures.by_index args.live (le_refl _)) 0 (omega (arith, c.if-b-n.true))); sound_g = λ o h. strayed_sound c.stray.ensures _ _ o o refl }

pub way_of-w-requires : goal.way_of-w-requires
way_of-w-requires c = (c.requires.1, c.first_cell-b.ensures.by_index c.args.live (le_refl _), c.first_cell-b.ensures.upper_bound)

pub load-requires : goal.load-requires
load-requires c = c.requires.0

pub returns : goal.returns
returns c =
    let args = c.args in
    record { o_after = λ i o. c.lift.ensures.o_value c.load.new.store i o args.own.now ∙ ap (lifted _ _) (c.load.ensures.does (own_of args.own.now args.live) i o) ∙ load_done _ args.at _ _ _ args.q args.v (c.way_of-w.ensures.result_value args.n args.store.now i o) (room_yes args.n args.live args.store.now i o args.own.now (c.first_cell-b.ensures.by_index args.live (le_refl _)) 0 (omega (arith, c.if-b-n.false))); sound_g = λ o h. c.lift.ensures.sound_g c.load.new.store o o args.own.now (did_quiet args.n c.load.result c.load.new.store o c.load.ensures.sound_d h) c.requires.1 }
