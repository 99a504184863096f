-- Laws of Status: each is one of the three.
use Rattle.std.proofs.Common.{Result, Ok, Err}
use mathlib.Core.Path.{◌≡◌}
use mathlib.Core.List.{List}
use Prim.Native.Nat.{ℕ, ◌≤◌}
use native.Mathlib.Omega.{arith}
use lib.IntN.{ℤ}
use Rattle.asking.specs.Lists.{list_words, leading, listed_in}
use Rattle.std.specs.Prelude.{Result, Ok, Err}
use Rattle.asking.specs.declared.lists.Unlisted.{Unlisted}
use Rattle.asking.specs.declared.lists.Unlisted.TheVariants.{NoNumber, Full}
use Rattle.checking.specs.declared.Checked.{Checked}
use Rattle.checking.specs.declared.Checked.TheVariants.{Yes, Refused as Unchecked, Wrong as WrongAt}
use Rattle.desk.specs.Status.{nothing}
use Rattle.deed.specs.Status.{of_checked, CheckStatus, ByWords, SentStatus}

most_checked : (c : Checked) → of_checked c ≤ nothing
most_checked Yes = omega arith
most_checked (Unchecked r) = omega arith
most_checked (WrongAt i) = omega arith

by_words_most : (text : List ℕ) (numbers : List ℤ) (l : Result ℕ Unlisted) (s : ℕ) → ByWords text numbers l s → s ≤ nothing
by_words_most text numbers (Ok n) s t = let h : CheckStatus text numbers s = t in rw h.told (most_checked h.checked)
by_words_most text numbers (Err (NoNumber i)) s t = let h : s ≡ nothing = t in omega arith
by_words_most text numbers (Err Full) s t = let h : s ≡ nothing = t in omega arith

pub sent_most : {text list : List ℕ} {s : ℕ} → SentStatus text list s → s ≤ nothing
sent_most {text} {list} {s} t = by_words_most text (leading (list_words list)) (listed_in 32768 (list_words list)) s t.by_words
