-- Room for all of them, or none is taken.
use mathlib.Core.Path.{refl}
use native.Mathlib.Omega.{arith}
use Prim.Native.Nat.{◌+◌, ◌≤◌}
use Rattle.machine.specs.Data.{in_all}
use Rattle.machine.specs.Instructions.{counted}
use Rattle.machine.specs.model.Holding.{room_of}
use Rattle.machine.proofs.Kept.{open_full, open_done, open_sound}
use Rattle.machine.proofs.blocks.open.Goals as goal

pub in_all-k-requires : goal.in_all-k-requires
in_all-k-requires c = c.requires.1

pub overflow_add-c : goal.overflow_add-c
overflow_add-c c = omega (arith, c.requires.0.room, c.requires.0.few)

pub overflow_add-c-2 : goal.overflow_add-c-2
overflow_add-c-2 c = omega (arith, c.requires.0.room, c.requires.0.few, c.in_all-k.ensures, c.requires.1)

pub returns-then-c-h : goal.returns-then-c-h
returns-then-c-h c =
    let args = c.args in
    record { o_after = λ a i o. open_full args.n a args.store.now i o _ (counted args.v) (omega (arith, c.if-c-h.true, c.room.ensures, c.in_all-k.ensures)); sound_d = tt }

pub unassign_all-requires : goal.unassign_all-requires
unassign_all-requires c = (omega (arith, c.if-c-h.false, c.room.ensures, c.in_all-k.ensures), c.requires.1)

pub overflow_add-n : goal.overflow_add-n
overflow_add-n c = omega (arith, c.requires.0.room, c.requires.0.few, c.if-c-h.false, c.room.ensures)

pub returns : goal.returns
returns c = let h : c.args.n.cells + c.args.n.held + in_all (counted c.args.v) ≤ room_of c.args.store.now = omega (arith, c.if-c-h.false, c.room.ensures, c.in_all-k.ensures) in rw c.in_all-k.ensures (record { o_after = λ a i o. open_done c.args.n a c.args.store.now i o _ (counted c.args.v) c.unassign_all.ensures h; sound_d = (open_sound c.args.n c.args.store.now (counted c.args.v) c.unassign_all.ensures c.requires.0 h, refl) })
