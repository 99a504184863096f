-- `vectors::reads::same_words` meets its contract. The words from i on are compared with the numbers from the place on.
-- Assumes nothing.
use mathlib.Core.Path.{◌≡◌}
use Prim.Native.Nat.{◌≤◌}
use lib.ListN.{length, drop}
use Rattle.vectors.specs.Listed.{same_words}
use Rattle.vectors.proofs.reads.same_words.Given as goal

abbrev pub invariant-loop-i : goal.invariant-loop-i
invariant-loop-i l = (l.i ≤ length l.words) × (same_words l.words l.text l.from ≡ same_words (drop l.i l.words) l.text l.at)
