-- `asking::sorts::first` meets its contract. No word that is passed is of the sort, so those from i on are those.
-- Assumes nothing.
use mathlib.Core.Path.{◌≡◌}
use Prim.Native.Nat.{◌-◌, ◌≤◌, min}
use lib.ListN.{length, drop}
use Rattle.asking.specs.Words.{words_of}
use Rattle.asking.specs.Sorts.{those}
use Rattle.asking.proofs.sorts.first.Given as goal

abbrev pub invariant-loop-sort : goal.invariant-loop-sort
invariant-loop-sort l = (those l.sort l.arg (words_of (drop l.at l.line)) ≡ those l.sort l.arg (words_of (drop l.i l.line))) × (min l.at (length l.line) ≤ min l.i (length l.line))

abbrev pub decreases-loop-sort : goal.decreases-loop-sort
decreases-loop-sort l = length l.line - l.i
