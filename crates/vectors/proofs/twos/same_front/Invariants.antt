-- `vectors::twos::same_front` meets its contract. The words from i on are those that are left to compare.
-- Assumes nothing.
use mathlib.Core.Path.{◌≡◌}
use Prim.Native.Nat.{◌-◌}
use Rattle.vectors.specs.Twos.{same_from}
use Rattle.vectors.proofs.twos.same_front.Given as goal

abbrev pub invariant-loop-i : goal.invariant-loop-i
invariant-loop-i l = same_from l.a l.b l.from 0 l.n ≡ same_from l.a l.b l.from l.i (l.n - l.i)
