-- `asking::words::zeros_end` meets its contract. The zeros from `at` on are those passed and those from i on.
-- Assumes nothing.
use mathlib.Core.Path.{◌≡◌}
use Prim.Native.Nat.{◌+◌}
use lib.ListN.{drop}
use Rattle.asking.specs.Words.{leading_zeros}
use Rattle.asking.proofs.words.zeros_end.Given as goal

abbrev pub invariant-loop-i : goal.invariant-loop-i
invariant-loop-i l = l.at + leading_zeros (drop l.at l.line) ≡ l.i + leading_zeros (drop l.i l.line)
