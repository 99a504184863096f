-- `symbols::words::is_word` meets its contract. Whether the rest from i on is the same is whether all is; each byte of the word is a small letter.
-- Assumes nothing.
use mathlib.Core.Path.{◌≡◌}
use lib.ListN.{length, drop}
use Rattle.symbols.specs.Names.{same_name}
use Rattle.symbols.proofs.words.is_word.Given as goal

abbrev pub invariant-loop-i : goal.invariant-loop-i
invariant-loop-i l = (length l.w ≡ length l.word) × (same_name l.w l.word ≡ same_name (drop l.i l.w) (drop l.i l.word))
