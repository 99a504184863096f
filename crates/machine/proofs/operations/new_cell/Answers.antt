-- One more cell, where there is room.
use mathlib.Core.Path.{refl}
use native.Mathlib.Omega.{arith}
use Rattle.machine.proofs.Kept.{new_full, new_done, new_sound}
use Rattle.machine.proofs.operations.new_cell.Goals as goal

pub returns-then-k-h : goal.returns-then-k-h
returns-then-k-h c = record { o_after = λ a i o. new_full c.args.n a c.args.store.now i o _ _ (omega (arith, c.if-k-h.true, c.room.ensures)); sound_d = tt }

pub returns : goal.returns
returns c = record { o_after = λ a i o. new_done c.args.n a c.args.store.now i o _ _ c.put_cell.ensures c.requires.1 (omega (arith, c.if-k-h.false, c.room.ensures)); sound_d = (new_sound _ _ c.put_cell.ensures c.requires.0 refl (omega (arith, c.if-k-h.false, c.room.ensures)), refl) }
