-- Options that have a number behind them, and the words that are no option. These definitions are over the words that a line asks, among which is no flag.
use Rattle.std.specs.Prelude.{ℕ, ◌≤◌, ◌≡◌, Bool, true, false, cond, ◌&&◌, List, [], ◌∷◌, length, leb}
use Rattle.std.specs.Prelude.{Option, None, Some}
use Rattle.symbols.specs.Text.{bytes}
use Rattle.symbols.specs.Names.{equal}
use Rattle.asking.specs.Numerals.{natural_of}
use Rattle.asking.specs.Words.{part}
use Rattle.asking.specs.Sorts.{is_option, asked_from}
use Rattle.asking.specs.declared.sizes.Sizes.{Sizes}

-- ---- the number of an option

-- the number that the first word is, if there is one and it is a number
unfoldable pub first_number : List (List ℕ) → Option ℕ
first_number [] = None
first_number (w ∷ ws) = natural_of w

-- the number behind the first word `name`; the usual one where there is no such word; nothing where what is behind is no number or is missing
unfoldable pub option_of : List ℕ → ℕ → List (List ℕ) → Option ℕ
option_of name usual [] = Some usual
option_of name usual (w ∷ ws) = cond (equal w name) (first_number ws) (option_of name usual ws)

-- ---- the three sizes

-- instructions, cells and room, where all are numbers, the cells at most 8,192 and the room at most 196,608
unfoldable pub together : Option ℕ → Option ℕ → Option ℕ → Option Sizes
together None c o = None
together (Some l) None o = None
together (Some l) (Some c) None = None
together (Some l) (Some c) (Some o) = cond (leb c 8192 && leb o 196608) (Some (record { limit = l; cells = c; room = o })) None

unfoldable pub sizes_of : List (List ℕ) → Option Sizes
sizes_of ws = together (option_of (bytes "-l") 1000000 ws) (option_of (bytes "-c") 8192 ws) (option_of (bytes "-o") 196608 ws)

-- ---- words that are no option

-- the words without the first, if there is one
unfoldable pub others : List (List ℕ) → List (List ℕ)
others [] = []
others (w ∷ ws) = ws

-- neither an option nor the word behind one. The Bool says that an option stands just before
unfoldable pub operands_in : Bool → List (List ℕ) → List (List ℕ)
operands_in option [] = []
operands_in true (w ∷ ws) = operands_in false ws
operands_in false (w ∷ ws) = cond (is_option w) (operands_in true ws) (w ∷ operands_in false ws)

abbrev pub operands : List (List ℕ) → List (List ℕ)
operands ws = operands_in false ws

abbrev pub operands_from : List ℕ → ℕ → List (List ℕ)
operands_from line at = operands (asked_from line at)

-- r is behind the word from `from` up to `to`, and where that is an option, behind its number
pub record Behind (line : List ℕ) (from to r : ℕ) : Type 0 where
  pub words : asked_from line r ≡ cond (is_option (part line from to)) (others (asked_from line to)) (asked_from line to)
  pub onward : to ≤ r
  pub inside : r ≤ length line
