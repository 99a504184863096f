-- Sorts of words: options, and what is looked for in a line or in a table of rows.
use Rattle.std.specs.Prelude.{ℕ, Bool, cond, not, ◌&&◌, ◌||◌, List, [], ◌∷◌, length, get_or, drop, eqb, leb}
use Rattle.symbols.specs.Text.{bytes}
use Rattle.symbols.specs.Names.{digit, equal}
use Rattle.symbols.specs.Scan.{before}
use Rattle.asking.specs.Words.{words_of, has}
use Rattle.asking.specs.declared.sorts.Sort.{Sort}
use Rattle.asking.specs.declared.sorts.Sort.TheVariants.{Asked, Named, Misfit, Twice, Capital}

-- ---- options

-- - (45) and behind it no digit; - alone is standard input, and - and digits are a number
unfoldable pub looks : List ℕ → Bool
looks w = leb 2 (length w) && eqb (get_or w 0 0) 45 && not (digit (get_or w 1 0))

-- those that have a number behind them
unfoldable pub is_option : List ℕ → Bool
is_option w = equal w (bytes "-l") || equal w (bytes "-c") || equal w (bytes "-o")

-- and those that stand for themselves
unfoldable pub is_flag : List ℕ → Bool
is_flag w = not (is_option w) && looks w

-- ---- what is looked for

-- a row whose first word, up to a blank, is w
unfoldable pub is_named : List ℕ → List ℕ → Bool
is_named w row = equal (before 32 row) w

-- an option that is none of the words of a line
unfoldable pub is_misfit : List ℕ → List ℕ → Bool
is_misfit row w = not (has (words_of row) w) && looks w

-- an option that is among the words behind it
unfoldable pub is_twice : List ℕ → List (List ℕ) → Bool
is_twice w ws = has ws w && looks w

-- the name of a word that is wanted: it begins with a capital
unfoldable pub is_capital : List ℕ → Bool
is_capital w = leb 1 (length w) && leb 65 (get_or w 0 0) && leb (get_or w 0 0) 90

-- of a word and of those behind it
abbrev pub of_sort : Sort → List ℕ → List ℕ → List (List ℕ) → Bool
of_sort Asked arg w ws = not (is_flag w)
of_sort Named arg w ws = is_named arg w
of_sort Misfit arg w ws = is_misfit arg w
of_sort Twice arg w ws = is_twice w ws
of_sort Capital arg w ws = is_capital w

-- the words of a sort among some
unfoldable pub those : Sort → List ℕ → List (List ℕ) → List (List ℕ)
those s arg [] = []
those s arg (w ∷ ws) = cond (of_sort s arg w ws) (w ∷ those s arg ws) (those s arg ws)

-- what words ask: those that are no flag
abbrev pub asked : List (List ℕ) → List (List ℕ)
asked ws = those Asked [] ws

abbrev pub asked_from : List ℕ → ℕ → List (List ℕ)
asked_from line at = asked (words_of (drop at line))
