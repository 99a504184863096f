-- `vectors::rows::rows` meets its contract. Each row is counted, as it is and in capitals.
-- Assumes nothing.
use Prim.Native.Nat.{◌/◌, ◌≤◌}
use lib.ListN.{length}
use Rattle.vectors.specs.Counted.{Rows, CapitalRows}
use Rattle.vectors.proofs.rows.rows.Given as goal

abbrev pub invariant-loop-k : goal.invariant-loop-k
invariant-loop-k l = (l.k ≤ length l.index / 49) × Rows l.k l.t.plain × CapitalRows l.k l.t.capitals
