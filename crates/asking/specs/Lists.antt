-- Lists of numbers that somebody sent, as they are typed: numbers separated by blanks, commas or line ends.
use Rattle.std.specs.Prelude.{ℕ, ◌≡◌, cond, List, [], ◌∷◌, ◌++◌, map, leb, ltb, ℤ, pos, negsuc, length, take, drop}
use Rattle.std.specs.Prelude.{Option, None, Some, Result, Ok, Err}
use Rattle.asking.specs.Numerals.{integer_of}
use Rattle.asking.specs.Words.{words_of, unlisted, LineBy}
use Rattle.asking.specs.declared.lists.Unlisted.{Unlisted}
use Rattle.asking.specs.declared.lists.Unlisted.TheVariants.{NoNumber, Full}

-- ---- the words of a list

abbrev pub list_words : List ℕ → List (List ℕ)
list_words text = words_of (map unlisted text)

abbrev pub ListLine : List ℕ → List ℕ → ℕ → List ℕ → Type 0
ListLine = LineBy unlisted

-- ---- the numbers of a list

-- what stands for a whole number, however large, among numbers of 64 bits: itself from 0 to 65,535. Any other is no word of a source, and −1, which is
-- none either, stands for it: so no number comes round to another
unfoldable pub sent : ℤ → ℤ
sent (pos n) = cond (leb n 65535) (pos n) (negsuc 0)
sent (negsuc n) = negsuc 0

unfoldable pub standing : Option ℤ → Option ℤ
standing None = None
standing (Some z) = Some (sent z)

-- of a word: digits, with a sign or none, as many as there may be
unfoldable pub sent_of : List ℕ → Option ℤ
sent_of w = standing (integer_of w)

-- a number in front of others; no number, and nothing is behind it
unfoldable pub in_front : Option ℤ → List ℤ → List ℤ
in_front None zs = []
in_front (Some z) zs = z ∷ zs

-- of the words up to the first that is no number
unfoldable pub leading : List (List ℕ) → List ℤ
leading [] = []
leading (w ∷ ws) = in_front (sent_of w) (leading ws)

-- the words are so many numbers; or the index of the first that is none; or there are more numbers than the room takes
unfoldable pub listed_in : ℕ → List (List ℕ) → Result ℕ Unlisted
listed_in room ws =
    cond (ltb room (length (leading ws))) (Err Full)
    (cond (ltb (length (leading ws)) (length ws)) (Err (NoNumber (length (leading ws))))
    (Ok (length (leading ws))))

-- what is said of words, and what the room holds afterwards: the numbers, as many as it takes, and behind them what was there
pub record Lists (ws : List (List ℕ)) (list : List ℤ) (r : Result ℕ Unlisted) (list' : List ℤ) : Type 0 where
  pub said : r ≡ listed_in (length list) ws
  pub holds : list' ≡ take (length list) (leading ws) ++ drop (length (leading ws)) list
