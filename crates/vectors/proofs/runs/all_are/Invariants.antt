-- `vectors::runs::all_are` meets its contract. The numbers from i on are those that are left to compare.
-- Assumes nothing.
use mathlib.Core.Path.{◌≡◌}
use Prim.Native.Nat.{◌≤◌}
use lib.ListN.{drop}
use Rattle.vectors.specs.Ended.{all_are}
use Rattle.vectors.proofs.runs.all_are.Given as goal

abbrev pub invariant-loop-i : goal.invariant-loop-i
invariant-loop-i l = (l.from ≤ l.i) × (all_are l.x (drop l.from l.store) ≡ all_are l.x (drop l.i l.store))
