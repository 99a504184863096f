-- `vectors::runs::untouched` meets its contract. The numbers from i on are those that are left to compare.
-- Assumes nothing.
use mathlib.Core.Path.{◌≡◌}
use Prim.Native.Nat.{◌≤◌}
use lib.IntN.{pos}
use lib.ListN.{drop}
use Rattle.vectors.specs.Ended.{all_are}
use Rattle.vectors.proofs.runs.untouched.Given as goal

abbrev pub invariant-loop-i : goal.invariant-loop-i
invariant-loop-i l = (l.from ≤ l.i) × (all_are (pos 9) (drop l.from l.output) ≡ all_are (pos 9) (drop l.i l.output))
