-- `vectors::writes::declaration_at` meets its contract. The rows from j on are those that are left to look at.
-- Assumes nothing.
use mathlib.Core.Path.{◌≡◌}
use Prim.Native.Nat.{◌+◌, ◌-◌, ◌*◌}
use Rattle.vectors.specs.Pages.{number_from}
use Rattle.vectors.proofs.writes.declaration_at.Given as goal

abbrev pub invariant-loop-j : goal.invariant-loop-j
invariant-loop-j l = number_from l.table l.place (l.at + 1) l.count ≡ l.j + number_from l.table l.place (l.at + 1 + 4 * l.j) (l.count - l.j)
