-- `vectors::twos::all_words` meets its contract. The words from i on are those that are left to compare.
-- Assumes nothing.
use mathlib.Core.Path.{◌≡◌}
use lib.ListN.{drop}
use Rattle.vectors.specs.Pages.{all}
use Rattle.vectors.proofs.twos.all_words.Given as goal

abbrev pub invariant-loop-i : goal.invariant-loop-i
invariant-loop-i l = all l.word (drop l.from l.words) ≡ all l.word (drop l.i l.words)
