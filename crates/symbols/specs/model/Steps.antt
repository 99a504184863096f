-- What the functions of this crate give back, in terms of the definitions in Scan and Names. This is no part of the paper: it says where
-- in the source a definition is read, and how the lent arrays hold the symbols.
use Rattle.std.specs.Prelude.{Option, Some, None, IfSome, Result, Ok, Err, ℕ, ◌+◌, ◌≤◌, ◌<◌, min, ◌≡◌, Bool, true, cond, ◌&&◌, List, [], ◌∷◌, ◌++◌, length, get_or, drop, ltb, leb}
use Prim.Native.Char.{code}
use Rattle.std.proofs.Math.Option.{Option as Optional, none, some}
use Rattle.answers.specs.Numbers.{no_symbol}
use Rattle.answers.specs.Answers.{answer, refusal}
use Rattle.answers.specs.declared.Refusal.{Refusal}
use Rattle.symbols.specs.Names.{digit, these, reach, letters, value_from}
use Rattle.symbols.specs.Scan.{gap, followed, with_point, lexeme, turn, Scan, scan}
-- passed on: what the lent arrays hold is said by these
pub use Rattle.symbols.specs.Scan.{kinds_of, places_of, values_of}
use Rattle.symbols.specs.declared.Symbol.{Symbol}
use Rattle.symbols.specs.declared.Context.{Context}
use Rattle.symbols.specs.declared.Lexeme.{Lexeme}
use Rattle.symbols.specs.declared.Lexeme.TheVariants.{Is, Nothing}
use Rattle.symbols.specs.declared.Turn.{Turn}
use Rattle.symbols.specs.declared.Turn.TheVariants.{Pass, Keep, Refuse}
use Rattle.symbols.specs.declared.lexemes.Digits.{Digits}
use Rattle.symbols.specs.declared.Cursor.{Cursor}
use Rattle.symbols.specs.declared.Step.{Step}
use Rattle.symbols.specs.declared.Step.TheVariants.{Read, Passed, Refused, End}

-- ---- numbers, signs and names

-- a value is kept at 10^15 where it is over: then it is over any limit
unfoldable pub capped : ℕ → ℕ
capped v = min v 1000000000000000

-- the digits from a place on, behind n digits that make v
unfoldable pub digits_from : List ℕ → ℕ → ℕ → ℕ → Digits
digits_from source from v n =
    let bs = drop from source in
    record { value = capped (value_from v (these digit bs)); count = n + length (these digit bs); end = from + reach digit bs }

-- the number at a place, where a point stands behind its digits: what is read without the point is given
unfoldable pub pointed_at : List ℕ → ℕ → Lexeme → Lexeme
pointed_at source at plain =
    let k = reach digit (drop at source) in
    let rest = drop (at + k + 1) source in
    with_point plain (these digit (drop at source)) (these digit rest) (k + reach digit rest)

-- a sign that may be joined with `=`
unfoldable pub joined_of : Symbol → Symbol → List ℕ → Lexeme
joined_of alone both bs = cond (followed (code "=") bs) (Is both (gap bs + 1)) (Is alone 0)

-- all bytes are small letters
abbrev pub all_small : List ℕ → Bool
all_small [] = true
all_small (x ∷ l) = (leb 97 x && leb x 122) && all_small l

-- what is left of a name, by the place of its next letter or digit: nothing where there is none
abbrev pub rest_of : List ℕ → Option ℕ → List ℕ
rest_of source None = []
rest_of source (Some i) = get_or source i 0 ∷ letters (drop (i + 1) source)

pub record NextLetter (source : List ℕ) (from : ℕ) (r : Option ℕ) : Type 0 where
  pub same : letters (drop from source) ≡ rest_of source r
  pub within : IfSome r (λ i. (from ≤ i) × (i < length source))

-- ---- at a place of the source

unfoldable pub lexeme_at : List ℕ → ℕ → Lexeme
lexeme_at source at = cond (ltb at (length source)) (lexeme (get_or source at 0) (drop (at + 1) source)) Nothing

unfoldable pub turn_at : ℕ → Context → List ℕ → ℕ → Turn
turn_at n c source at = cond (ltb at (length source)) (turn n c (get_or source at 0) (drop (at + 1) source)) (Refuse (answer no_symbol))

unfoldable pub step_of : ℕ → Turn → Step
step_of p (Pass c k) = Passed (record { at = p + 1 + k; context = c })
step_of p (Keep s c k) = Read s (record { at = p + 1 + k; context = c })
step_of p (Refuse a) = Refused (refusal a.number p)

unfoldable pub step_at : ℕ → List ℕ → Cursor → Step
step_at n source cursor =
    cond (ltb cursor.at (length source)) (step_of cursor.at (turn_at n cursor.context source cursor.at)) End

-- ---- what is handed back, and what the lent arrays hold: the symbols up to the end or the refusal, and behind them what was there before

unfoldable pub answer_of : Scan → Result ℕ Refusal
answer_of r = ended r.refused (length r.found)
  where
    ended : Optional Refusal → ℕ → Result ℕ Refusal
    ended none n = Ok n
    ended (some x) n = Err x

abbrev pub over : {A : Type 0} → List A → List A → List A
over new old = new ++ drop (length new) old

-- what scanning hands back and leaves, for every source: the answer; and each array, which had these contents before and has those after
pub record Filled (limit : ℕ) (source : List ℕ) (r : Result ℕ Refusal) (kinds kinds' places places' values values' : List ℕ) : Type 0 where
  pub answers : r ≡ answer_of (scan limit source)
  pub kinded : kinds' ≡ over (kinds_of (scan limit source).found) kinds
  pub placed : places' ≡ over (places_of (scan limit source).found) places
  pub valued : values' ≡ over (values_of (scan limit source).found) values
