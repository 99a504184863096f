-- `vectors::writes::untouched` meets its contract. The bytes from i on are those that are left to compare.
-- Assumes nothing.
use mathlib.Core.Path.{◌≡◌}
use Prim.Native.Nat.{◌≤◌}
use lib.ListN.{drop}
use Rattle.vectors.specs.Pages.{all}
use Rattle.vectors.proofs.writes.untouched.Given as goal

abbrev pub invariant-loop-i : goal.invariant-loop-i
invariant-loop-i l = (l.from ≤ l.i) × (all 7 (drop l.from l.room) ≡ all 7 (drop l.i l.room))
