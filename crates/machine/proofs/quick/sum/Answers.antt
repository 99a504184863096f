-- The step is held in the place of the old one, and the sum has the cell that it left.
use native.Mathlib.Omega.{arith}
use Rattle.reals.proofs.Signed.{bits_pos}
use Rattle.machine.proofs.Stacks.{room_put}
use Rattle.machine.proofs.Numbers.{sum_quick}
use Rattle.machine.proofs.quick.sum.Goals as goal

pub put_cell-requires-2 : goal.put_cell-requires-2
put_cell-requires-2 c = rw (c.put_cell.ensures, room_put _ _ _) (omega (arith, c.requires.0.room, c.if-c-m.false))

pub returns : goal.returns
returns c =
    let args = c.args in
    sum_quick args.at args.live args.n args.store.now args.own.now c.requires.0 args.v c.cell_of-c.ensures.spots c.if-c-m.false (bits_pos _ c.if-h-eq0.false) c.in_ok-x.was c.whole_at.ensures c.in_ok-z.was c.whole_at-2.ensures c.wholes.ensures c.in-Is.is (rw c.room-top.ensures at c.put_cell.ensures) c.put_cell-2.ensures
