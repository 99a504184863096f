-- A line of words: bytes in which a zero ends a word, so that a word can hold blanks. An empty word is none.
use Rattle.std.specs.Prelude.{ℕ, suc, ◌+◌, ◌-◌, ◌≤◌, ◌<◌, min, ◌≡◌, Bool, true, false, cond, ◌&&◌, ◌||◌, List, [], ◌∷◌, ◌++◌, map, length, take, drop, eqb, leb}
use Prim.Native.Char.{code}
use Rattle.symbols.specs.Text.{bytes}
use Rattle.symbols.specs.Names.{blank, equal}
use Rattle.symbols.specs.Scan.{before}
use Rattle.asking.specs.declared.words.Word.{Word}

-- ---- the words of a line

-- a word in front of others, where it is not empty
unfoldable pub ended : List ℕ → List (List ℕ) → List (List ℕ)
ended [] ws = ws
ended (b ∷ w) ws = (b ∷ w) ∷ ws

-- the words of what is left of a line, behind the bytes w of a word that has begun
unfoldable pub cut : List ℕ → List ℕ → List (List ℕ)
cut w [] = ended w []
cut w (b ∷ bs) = cond (eqb b 0) (ended w (cut [] bs)) (cut (w ++ (b ∷ [])) bs)

-- the words of a line: its longest runs of bytes that are no zero
abbrev pub words_of : List ℕ → List (List ℕ)
words_of line = cut [] line

-- whether a word is among some
unfoldable pub has : List (List ℕ) → List ℕ → Bool
has [] t = false
has (w ∷ ws) t = equal w t || has ws t

abbrev pub plain : List ℕ
plain = bytes "--plain"

-- ---- where words stand

-- the bytes from a place up to another
abbrev pub part : List ℕ → ℕ → ℕ → List ℕ
part line from to = take (to - from) (drop from line)

-- whether these bytes are there and are the text
unfoldable pub is_part : List ℕ → ℕ → ℕ → List ℕ → Bool
is_part line from to text = leb from to && leb to (length line) && equal (part line from to) text

-- how many zeros stand first
unfoldable pub leading_zeros : List ℕ → ℕ
leading_zeros [] = 0
leading_zeros (b ∷ bs) = cond (eqb b 0) (suc (leading_zeros bs)) 0

-- w begins behind the zeros from `at` on, or at the line's end where `at` is behind it, and reaches to the next zero. What the last three say
-- follows from the first two; it is here for callers
pub record WordFrom (line : List ℕ) (at : ℕ) (w : Word) : Type 0 where
  pub starts : w.from ≡ min at (length line) + leading_zeros (drop at line)
  pub ends : w.to ≡ w.from + length (before 0 (drop w.from line))
  pub onward : min at (length line) ≤ w.from
  pub ordered : w.from ≤ w.to
  pub inside : w.to ≤ length line

-- of words that a line has from each place on, w is the first from `at` on; where there is none, it is
-- empty and at the line's end. The last three are for callers
pub record First (words : ℕ → List (List ℕ)) (line : List ℕ) (at : ℕ) (w : Word) : Type 0 where
  pub none : w.from ≡ w.to → words at ≡ []
  pub end : w.from ≡ w.to → w.to ≡ length line
  pub first : w.from < w.to → words at ≡ part line w.from w.to ∷ words w.to
  pub onward : min at (length line) ≤ w.from
  pub ordered : w.from ≤ w.to
  pub inside : w.to ≤ length line

-- ---- a text as a line

-- a byte of a text whose words are ended by blanks
unfoldable pub unblanked : ℕ → ℕ
unblanked b = cond (blank b) 0 b

-- blanks, line ends and commas separate numbers
unfoldable pub separates : ℕ → Bool
separates b = blank b || eqb b (code ",")

-- a byte of a list as one of a line: what separates is a zero; a zero itself does not, and is part of no number
unfoldable pub unlisted : ℕ → ℕ
unlisted b = cond (separates b) 0 (cond (eqb b 0) (code "?") b)

-- a byte of a text as one of a line: of a list, or of words that blanks end
abbrev pub laid_as : Bool → ℕ → ℕ
laid_as true b = unlisted b
laid_as false b = unblanked b

-- of a text, each byte f of what it was, as much as the row takes is put there, n bytes, and the rest of the row stays. The last three are for callers
pub record LineBy (f : ℕ → ℕ) (text row : List ℕ) (n : ℕ) (row' : List ℕ) : Type 0 where
  pub many : n ≡ min (length text) (length row)
  pub holds : row' ≡ take n (map f text) ++ drop n row
  pub inside : n ≤ length row'
  pub counts : n ≡ length (take n row')
  pub kept : length row' ≡ length row

abbrev pub LineOf : List ℕ → List ℕ → ℕ → List ℕ → Type 0
LineOf = LineBy unblanked
