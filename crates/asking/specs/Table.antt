-- The commands of the tool: a row each, which is its word, the names of the words that it wants, and its options; = stands before what an option has
-- behind it.
use Rattle.std.specs.Prelude.{ℕ, Bool, true, false, List, [], ◌∷◌, ◌++◌}
use Rattle.symbols.specs.Text.{bytes}
use Rattle.asking.specs.Words.{has}
use Rattle.asking.specs.Sorts.{those}
use Rattle.asking.specs.declared.sorts.Sort.TheVariants.{Named, Capital}

abbrev pub rows : List (List ℕ)
rows =
    bytes "read FILE --plain" ∷
    bytes "uses FILE --list --plain" ∷
    bytes "levels FILE" ∷
    bytes "page FILE" ∷
    bytes "code FILE" ∷
    bytes "write FILE --plain" ∷
    bytes "check FILE LIST --plain" ∷
    bytes "run FILE [-] [NUMBER ..] --strict --values --plain -l =LIMIT -c =CELLS -o =ROOM" ∷
    bytes "do FILE" ∷
    bytes "help" ∷
    []

-- the rows, each ended by a zero
abbrev joined : List (List ℕ) → List ℕ
joined [] = []
joined (r ∷ rs) = r ++ (0 ∷ joined rs)

abbrev pub table_text : List ℕ
table_text = joined rows

-- the first of some rows; nothing where there is none
unfoldable pub first_row : List (List ℕ) → List ℕ
first_row [] = []
first_row (r ∷ rs) = r

-- the row of a word
unfoldable pub row_in : List (List ℕ) → List ℕ → List ℕ
row_in rs w = first_row (those Named w rs)

unfoldable pub row_of : List ℕ → List ℕ
row_of w = row_in rows w

-- the names of the words that a row wants, and whether more are welcome
abbrev pub names : List (List ℕ) → List (List ℕ)
names row = those Capital [] row

abbrev pub more : List (List ℕ) → Bool
more row = has row (bytes "..]")

-- a word for each name, and no other unless more are welcome
unfoldable pub matched : List (List ℕ) → Bool → List (List ℕ) → Bool
matched [] free [] = true
matched [] free (w ∷ ws) = free
matched (n ∷ ns) free [] = false
matched (n ∷ ns) free (w ∷ ws) = matched ns free ws
