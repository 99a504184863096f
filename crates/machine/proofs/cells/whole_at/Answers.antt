-- The kind of a whole number, and a load of 32 bits.
use Prim.Native.Nat.{◌+◌, ◌*◌}
use native.Mathlib.Omega.{arith}
use lib.IntN.{pos}
use lib.ListN.{get_or}
use mir.Syntax.{w64}
use Rattle.reals.proofs.Signed.{read_back}
use Rattle.machine.specs.model.Holding.{room_of}
use Rattle.machine.proofs.Numbers.{number_told}
use Rattle.machine.proofs.cells.whole_at.Goals as goal

pub overflow_mul-kind : goal.overflow_mul-kind
unfolding room_of
overflow_mul-kind c = omega arith

pub offset_bounds-store-c : goal.offset_bounds-store-c
unfolding room_of
offset_bounds-store-c c = omega arith

pub bounds-store-c : goal.bounds-store-c
unfolding room_of
bounds-store-c c = omega arith

pub overflow_mul-load : goal.overflow_mul-load
unfolding room_of
overflow_mul-load c = omega arith

pub overflow_add-load : goal.overflow_add-load
unfolding room_of
overflow_add-load c = omega arith

pub offset_bounds-store-c-2 : goal.offset_bounds-store-c-2
unfolding room_of
offset_bounds-store-c-2 c = omega arith

pub bounds-store-c-2 : goal.bounds-store-c-2
unfolding room_of
bounds-store-c-2 c = omega arith

pub returns : goal.returns
returns c =
    let b = read_back w64 (get_or c.args.store.now (2 * c.args.c + 1) (pos 0)) c.load-1.given in
    rw c.ok.ensures.value (number_told c.args.store.now c.args.c c.try_from.result c.if-kind-ne-WHOLE.false b c.try_from.ensures)
