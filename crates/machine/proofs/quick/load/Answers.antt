-- The number that the cell holds is in a new one.
use native.Mathlib.Omega.{arith}
use Rattle.machine.proofs.Numbers.{load_quick}
use Rattle.machine.proofs.quick.load.Goals as goal

pub returns : goal.returns
returns c =
    let args = c.args in
    load_quick args.at args.live args.n args.store.now args.own.now c.requires.0 args.v c.cell_of-c.ensures.spots c.if-c-m.false (omega (arith, c.if-m-n.false, c.room.ensures)) c.in_ok-z.was c.whole_at.ensures c.put_cell.ensures
