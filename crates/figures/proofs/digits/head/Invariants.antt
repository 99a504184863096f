-- `figures::digits::head` meets its contract: h is the number without its i lowest digits.
-- Assumes nothing.
use mathlib.Core.Path.{◌≡◌}
use Prim.Native.Nat.{◌≤◌}
use lib.ListN.{drop}
use Rattle.figures.specs.Digits.{value}
use Rattle.figures.proofs.digits.head.Given as goal

abbrev pub invariant-loop-i : goal.invariant-loop-i
invariant-loop-i l = (l.j ≤ l.i) × (l.h ≡ value (drop l.i l.a))
