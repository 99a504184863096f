-- The condition is above the first cell of the activation.
use mathlib.Core.Path.{refl, ap, ◌∙◌}
use native.Mathlib.Nat.{le_refl}
use Rattle.machine.specs.Data.{condition}
use Rattle.machine.specs.Instructions.{low}
use Rattle.machine.specs.model.Holding.{lifted, own_of}
use Rattle.machine.proofs.Execs.{strayed, strayed_sound, if_stray, if_lifted, room_no, room_yes}
use Rattle.machine.proofs.steps.unless.Goals as goal

pub returns-then-first_cell-n : goal.returns-then-first_cell-n
returns-then-first_cell-n c =
    let args = c.args in
    record { o_value = λ i o. strayed c.stray.ensures _ _ i o ∙ if_stray _ args.at _ _ _ condition (low args.v) (room_no args.n args.live args.store.now i o args.own.now (c.first_cell.ensures.by_index args.live (le_refl _)) 1 c.if-first_cell-n.true); sound_g = λ o h. strayed_sound c.stray.ensures _ _ o o refl }

pub returns : goal.returns
returns c =
    let args = c.args in
    rw (← c.low.ensures) (record { o_value = λ i o. c.lift_test.ensures.o_value args.store.now i o args.own.now ∙ ap (lifted _ _) (c.condition.ensures.tests (own_of args.own.now args.live) i o) ∙ if_lifted _ args.at _ _ _ condition c.low.result (room_yes args.n args.live args.store.now i o args.own.now (c.first_cell.ensures.by_index args.live (le_refl _)) 1 c.if-first_cell-n.false); sound_g = λ o h. c.lift_test.ensures.sound_g args.n args.store.now o args.own.now c.condition.ensures.sound_t h c.requires.1 })
