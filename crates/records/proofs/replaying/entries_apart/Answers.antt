-- By how many numbers agree.
use native.Mathlib.Omega.{arith}
use Rattle.records.proofs.Replays.{one_or_other, parted, unparted}
use Rattle.records.proofs.replaying.entries_apart.Goals as goal

pub returns-then-k-a : goal.returns-then-k-a
returns-then-k-a c = parted c.args.a.now c.args.b.now c.agreeing-k.result c.agreeing-k.ensures (one_or_other c.then-k-a.either)

pub returns : goal.returns
returns c = unparted c.args.a.now c.args.b.now c.agreeing-k.result c.agreeing-k.ensures (omega arith) (omega arith)
