-- `asking::words::has_word` meets its contract. Whether the words from `at` on have the text is whether all have it.
-- Assumes nothing.
use mathlib.Core.Path.{◌≡◌}
use Prim.Native.Nat.{◌-◌}
use lib.ListN.{length, drop}
use Rattle.asking.specs.Words.{words_of, has}
use Rattle.asking.proofs.words.has_word.Given as goal

abbrev pub invariant-loop-at : goal.invariant-loop-at
invariant-loop-at l = has (words_of (drop l.from l.line)) l.text ≡ has (words_of (drop l.at l.line)) l.text

abbrev pub decreases-loop-at : goal.decreases-loop-at
decreases-loop-at l = length l.line - l.at
