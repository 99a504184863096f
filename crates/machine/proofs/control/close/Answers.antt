-- The cells are above the first one of the activation.
use mathlib.Core.Path.{refl, ap, ◌∙◌}
use native.Mathlib.Nat.{le_refl}
use Rattle.machine.specs.model.Holding.{lifted, own_of}
use Rattle.machine.proofs.Execs.{strayed, strayed_sound, leave_stray, leave_lifted, room_no, room_yes, lifted_next, did_quiet}
use Rattle.machine.proofs.control.close.Goals as goal

pub returns-then-first_cell-k : goal.returns-then-first_cell-k
returns-then-first_cell-k c =
    let args = c.args in
    record { o_value = λ s i o. strayed c.stray.ensures s _ i o ∙ leave_stray _ args.at _ _ _ args.k (room_no args.n args.live s i o args.own.now (c.first_cell.ensures.by_index args.live (le_refl _)) args.k c.if-first_cell-k.true); sound_g = λ s o g h. strayed_sound c.stray.ensures s _ o o refl }

pub returns : goal.returns
returns c =
    let args = c.args in
    record { o_value = λ s i o. c.lift.ensures.o_value s i o args.own.now ∙ ap (lifted _ _) (c.close.ensures.o_value (own_of args.own.now args.live) s i o) ∙ lifted_next _ _ _ _ _ ∙ leave_lifted _ args.at _ _ _ args.k (room_yes args.n args.live s i o args.own.now (c.first_cell.ensures.by_index args.live (le_refl _)) args.k c.if-first_cell-k.false); sound_g = λ s o g h. c.lift.ensures.sound_g s o o args.own.now (did_quiet args.n c.close.result s o (c.close.ensures.sound_d s g) h) c.requires.0 }
