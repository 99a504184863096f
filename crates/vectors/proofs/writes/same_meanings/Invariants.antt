-- `vectors::writes::same_meanings` meets its contract. The uses from k on are those that are left to compare.
-- Assumes nothing.
use mathlib.Core.Path.{◌≡◌}
use Prim.Native.Nat.{◌-◌}
use Rattle.vectors.specs.Pages.{alike_from}
use Rattle.vectors.proofs.writes.same_meanings.Given as goal

abbrev pub invariant-loop-k : goal.invariant-loop-k
invariant-loop-k l = alike_from l.a l.b 0 l.count ≡ alike_from l.a l.b l.k (l.count - l.k)
