-- `vectors::runs::all_words` meets its contract. The words from i on are those that are left to compare.
-- Assumes nothing.
use mathlib.Core.Path.{◌≡◌}
use Prim.Native.Nat.{◌-◌}
use Rattle.vectors.specs.Ended.{all_words}
use Rattle.vectors.proofs.runs.all_words.Given as goal

abbrev pub invariant-loop-i : goal.invariant-loop-i
invariant-loop-i l = all_words l.words l.from (l.to - l.from) l.word ≡ all_words l.words l.i (l.to - l.i) l.word
