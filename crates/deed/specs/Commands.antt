-- What the words of a command decide of the tool's exit status, whatever the files hold: by the row of its command. These are definitions of the tool and
-- no part of the paper.
use Rattle.std.specs.Prelude.{ℕ, ◌≤◌, ◌≡◌, Bool, true, false, cond, not, ◌&&◌, ◌||◌, List, [], ◌∷◌, map, take, Option as OptionOf, Some, None}
use Rattle.std.proofs.Math.Option.{Option, none, some}
use Rattle.symbols.specs.Text.{bytes}
use Rattle.symbols.specs.Names.{equal}
use Rattle.asking.specs.Words.{words_of, has, plain, unblanked}
use Rattle.asking.specs.Sorts.{those, asked}
use Rattle.asking.specs.Options.{sizes_of, operands}
use Rattle.asking.specs.Table.{row_of, names, more, matched}
use Rattle.asking.specs.declared.sorts.Sort.TheVariants.{Misfit, Twice}
use Rattle.asking.specs.declared.sizes.Sizes.{Sizes}
use Rattle.desk.specs.Status.{good, nothing}

abbrev pub is_none : List (List ℕ) → Bool
is_none [] = true
is_none (w ∷ ws) = false

-- a line asks for help, whatever else it says
unfoldable pub helps : List (List ℕ) → Bool
helps ws = has ws (bytes "--help") || has ws (bytes "-h")

-- the row of a word as a line, of which 256 bytes are taken
unfoldable pub row_line : List ℕ → List ℕ
row_line w = take 256 (map unblanked (row_of w))

-- each option is one of the row's words
unfoldable pub fitting : List ℕ → List (List ℕ) → Bool
fitting row ws = is_none (those Misfit row ws)

-- none stands twice
unfoldable pub once : List (List ℕ) → Bool
once ws = is_none (those Twice [] ws)

-- one line of numbers is asked for, and something else too
unfoldable pub clash : List (List ℕ) → Bool
clash ws = has ws plain && (has ws (bytes "--list") || has ws (bytes "--values"))

-- of the words behind the command's: one for each name of the row, and no other unless more are welcome
unfoldable pub full : List ℕ → List (List ℕ) → Bool
full row ws = matched (names (words_of row)) (more (words_of row)) (operands ws)

-- the sizes that are asked for can be had
abbrev pub had : OptionOf Sizes → Bool
had (Some s) = true
had None = false

unfoldable pub sized : List (List ℕ) → Bool
sized ws = had (sizes_of ws)

-- of a row, all words of a line, and those that it asks behind its command's
unfoldable pub well_asked : List ℕ → List (List ℕ) → List (List ℕ) → Bool
well_asked row all ws = fitting row all && once all && not (clash all) && full row ws && sized ws

-- help is given; what comes of any other command is its file's
unfoldable pub settled : List ℕ → Option ℕ
settled w = cond (equal w (bytes "help")) (some good) none

unfoldable pub by_row : List ℕ → Option ℕ → Bool → Option ℕ
by_row [] s well = some nothing
by_row (b ∷ row) s well = cond well s (some nothing)

-- of all words, and of those that are asked
unfoldable pub commanded : List (List ℕ) → List (List ℕ) → Option ℕ
commanded all [] = some nothing
commanded all (w ∷ ws) = by_row (row_line w) (settled w) (well_asked (row_line w) all ws)

-- of the words of a line
unfoldable pub decided : List (List ℕ) → Option ℕ
decided all = cond (helps all) (some good) (commanded all (asked all))

-- s is the status that is decided; where none is, it is one of the three
abbrev pub Keeps : Option ℕ → ℕ → Type 0
Keeps (some d) s = s ≡ d
Keeps none s = s ≤ nothing
