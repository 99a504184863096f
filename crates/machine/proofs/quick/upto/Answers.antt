-- All three are whole numbers, and the loop goes on.
use Rattle.reals.proofs.Signed.{bits_pos}
use Rattle.machine.proofs.Numbers.{upto_quick}
use Rattle.machine.proofs.quick.upto.Goals as goal

pub returns-then-stays : goal.returns-then-stays
returns-then-stays c =
    let args = c.args in
    upto_quick args.at args.live args.n args.store.now args.own.now c.requires.0 args.v c.cell_of-c.ensures.spots c.if-c-m.false (bits_pos _ c.if-h-eq0.false) c.in_ok-y.was c.whole_at.ensures c.in_ok-x.was (rw c.room.ensures at c.whole_at-2.ensures) c.in_ok-z.was c.whole_at-3.ensures (c.stays.ensures c.if-stays.true)
