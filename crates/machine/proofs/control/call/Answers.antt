-- The cells become those of a new activation.
use mathlib.Core.Path.{refl, ◌∙◌}
use native.Mathlib.Omega.{arith}
use native.Mathlib.Nat.{le_refl}
use Rattle.machine.specs.Instructions.{high, mid, low}
use Rattle.machine.specs.model.Holding.{fate_of}
use Rattle.machine.proofs.Execs.{strayed, strayed_sound, call_stray, call_full, call_done, call_sound, room_no}
use Rattle.machine.proofs.control.call.Goals as goal

pub returns-then-first_cell-k : goal.returns-then-first_cell-k
returns-then-first_cell-k c =
    let args = c.args in
    record { o_after = λ s i o. strayed c.stray.ensures s _ i o ∙ call_stray _ args.at _ _ _ args.q (low args.v) (high args.v) (mid args.v) (fate_of args.fate) (room_no args.n args.live s i o args.own.now (c.first_cell.ensures.by_index args.live (le_refl _)) (mid args.v) (rw c.mid-k.ensures at c.if-first_cell-k.true)); sound_g = λ s o g h. strayed_sound c.stray.ensures s _ o o refl }

pub returns-then-live-ge-LIVE : goal.returns-then-live-ge-LIVE
returns-then-live-ge-LIVE c =
    let args = c.args in
    record { o_after = λ s i o. call_full args.n args.live s i o args.own.now args.at args.q (low args.v) (high args.v) (mid args.v) (fate_of args.fate) (c.first_cell.ensures.by_index args.live (le_refl _)) (rw c.mid-k.ensures at c.if-first_cell-k.false) c.if-live-ge-LIVE.true; sound_g = λ s o g h. refl }

pub begin-requires : goal.begin-requires
begin-requires c = (c.requires.0, c.if-live-ge-LIVE.false, c.requires.1, omega (arith, c.requires.2), c.around-outer.ensures.0)

pub returns : goal.returns
returns c =
    let args = c.args in
    rw c.low.ensures (record { o_after = λ s i o. call_done args.n args.live s i o args.own.now args.at args.q (low args.v) (high args.v) (mid args.v) args.fate (c.first_cell.ensures.by_index args.live (le_refl _)) (rw c.mid-k.ensures at c.if-first_cell-k.false) c.requires.0 c.if-live-ge-LIVE.false _ _ c.begin.ensures (rw c.mid-k.ensures) (rw c.high.ensures at c.around-outer.ensures.1); sound_g = λ s o g h. call_sound args.n args.live s s o args.own.now args.at args.q (low args.v) (high args.v) (mid args.v) args.fate (c.first_cell.ensures.by_index args.live (le_refl _)) (rw c.mid-k.ensures at c.if-first_cell-k.false) c.requires.0 c.if-live-ge-LIVE.false _ _ c.begin.ensures c.requires.3 g h })
