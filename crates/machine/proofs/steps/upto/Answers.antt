-- The bound is above the first cell of the activation.
use mathlib.Core.Path.{refl, ap, ◌∙◌}
use native.Mathlib.Nat.{le_refl}
use Rattle.machine.specs.Data.{upto}
use Rattle.machine.specs.Instructions.{low, variable}
use Rattle.machine.specs.model.Holding.{lifted, own_of}
use Rattle.machine.proofs.Execs.{strayed, strayed_sound, if_stray, upto_done, room_no, room_yes}
use Rattle.machine.proofs.steps.upto.Goals as goal

pub returns-then-b-n : goal.returns-then-b-n
returns-then-b-n c =
    let args = c.args in
    record { o_value = λ i o. strayed c.stray.ensures _ _ i o ∙ if_stray _ args.at _ _ _ (upto args.q (variable args.v)) (low args.v) (room_no args.n args.live args.store.now i o args.own.now (c.first_cell-b.ensures.by_index args.live (le_refl _)) 1 c.if-b-n.true); sound_g = λ o h. strayed_sound c.stray.ensures _ _ o o refl }

pub way_of-w-requires : goal.way_of-w-requires
way_of-w-requires c = (c.requires.1, c.first_cell-b.ensures.by_index c.args.live (le_refl _), c.first_cell-b.ensures.upper_bound)

pub upto-requires : goal.upto-requires
upto-requires c = c.requires.0

pub returns : goal.returns
returns c =
    let args = c.args in
    rw (← c.low.ensures) (record { o_value = λ i o. c.lift_test.ensures.o_value args.store.now i o args.own.now ∙ ap (lifted _ _) (c.upto.ensures.tests (own_of args.own.now args.live) i o) ∙ upto_done _ args.at _ _ _ args.q args.v (c.way_of-w.ensures.result_value args.n args.store.now i o) c.low.result (room_yes args.n args.live args.store.now i o args.own.now (c.first_cell-b.ensures.by_index args.live (le_refl _)) 1 c.if-b-n.false); sound_g = λ o h. c.lift_test.ensures.sound_g args.n args.store.now o args.own.now c.upto.ensures.sound_t h c.requires.1 })
