-- `vectors::twos::pairs` meets its contract. Each row is counted.
-- Assumes nothing.
use Prim.Native.Nat.{◌/◌, ◌≤◌}
use lib.ListN.{length}
use Rattle.vectors.specs.Twos.{Pairs}
use Rattle.vectors.proofs.twos.pairs.Given as goal

abbrev pub invariant-loop-k : goal.invariant-loop-k
invariant-loop-k l = (l.k ≤ length l.index / 128) × Pairs l.k l.t
