-- `vectors::twos::sources` meets its contract. Each row is counted.
-- Assumes nothing.
use Prim.Native.Nat.{◌/◌, ◌≤◌}
use lib.ListN.{length}
use Rattle.vectors.specs.Twos.{Sources}
use Rattle.vectors.proofs.twos.sources.Given as goal

abbrev pub invariant-loop-k : goal.invariant-loop-k
invariant-loop-k l = (l.k ≤ length l.index / 49) × Sources l.k l.named l.t
