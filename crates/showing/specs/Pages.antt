-- What the tool shows of a source and of a table: lines and columns as people count them, rows of bytes, sections, levels. These are definitions of
-- the tool and no part of the paper.
use Rattle.std.specs.Prelude.{ℕ, zero, suc, ◌+◌, ◌-◌, min, ◌≡◌, Bool, cond, ◌||◌, List, [], ◌∷◌, ◌++◌, eqb, leb, ltb, length, get_or, take, drop}
use Rattle.symbols.specs.Names.{in_name, reach}
use Rattle.showing.specs.Characters.{width_at, inside}
use Rattle.grammar.specs.NodeKinds.{n_block, n_block_end, n_procedure, n_procedure_end}

-- ---- lines and columns

-- a newline stands at a place; behind the end of the source there is none
abbrev pub newline : List ℕ → ℕ → Bool
newline source p = eqb (get_or source p 0) 10

-- where the line of a place begins: behind the last newline before the place, and at 0 where there is none
unfoldable pub start_of : List ℕ → ℕ → ℕ
start_of source zero = 0
start_of source (suc p) = cond (newline source p) (suc p) (start_of source p)

-- its number: 1, and one more for each newline before the place
unfoldable pub line_of : List ℕ → ℕ → ℕ
line_of source zero = 1
line_of source (suc p) = cond (newline source p) (suc (line_of source p)) (line_of source p)

-- how far the place is in its line, from 1
unfoldable pub column_of : List ℕ → ℕ → ℕ
column_of source p = p - start_of source p + 1

-- ---- rows

-- a text at the front of a row, n bytes of it, as many as the row takes; behind them the row is as it was
pub record Fills (text row after : List ℕ) (n : ℕ) : Type 0 where
  pub counted : n ≡ min (length text) (length row)
  pub stands : after ≡ take n text ++ drop n row

-- a byte as it is shown: nothing in a source moves the cursor but a tab
unfoldable pub shown_byte : ℕ → ℕ
shown_byte b = cond (eqb b 9) 9 (cond (eqb b 13) 32 (cond (leb b 31 || eqb b 127) 63 b))

-- where what is shown of a line begins: with the line, or 60 bytes before a place that is 80 or more behind its beginning
unfoldable pub shown_start : ℕ → ℕ → ℕ
shown_start start place = cond (ltb (place - start) 80) start (place - 60)

-- the byte of a place as it is shown: from 128 on as it stands if it is part of a character that is shown
unfoldable pub shown_at : List ℕ → ℕ → ℕ
shown_at source p = cond (leb 128 (get_or source p 0)) (cond (inside source p || ltb 1 (width_at source p)) (get_or source p 0) 63) (shown_byte (get_or source p 0))

-- what is shown of these bytes of a source, the first of which stands at p, up to a newline
unfoldable pub shown_in : List ℕ → ℕ → List ℕ → List ℕ
shown_in source p [] = []
shown_in source p (b ∷ bs) = cond (eqb b 10) [] (shown_at source p ∷ shown_in source (suc p) bs)

-- what is shown of a line from a place on
unfoldable pub shown_from : List ℕ → ℕ → List ℕ
shown_from source p = shown_in source p (drop p source)

-- what stands under a character: a tab under a tab, or else a blank
unfoldable pub under_byte : ℕ → ℕ
under_byte b = cond (eqb b 9) 9 32

-- what stands under bytes, the first of which stands at p; nothing under one that is inside a character
unfoldable pub under_in : List ℕ → ℕ → List ℕ → List ℕ
under_in source p [] = []
under_in source p (b ∷ bs) = cond (inside source p) (under_in source (suc p) bs) (under_byte b ∷ under_in source (suc p) bs)

-- what stands before the mark under a place, below what is shown of its line from p on
unfoldable pub marks_from : List ℕ → ℕ → ℕ → List ℕ
marks_from source p place = under_in source p (take (place - p) (drop p source))

-- ---- levels

-- the nodes that open a scope, and those that close one
unfoldable pub opens : ℕ → Bool
opens kind = eqb kind n_block || eqb kind n_procedure

unfoldable pub closes : ℕ → Bool
closes kind = eqb kind n_block_end || eqb kind n_procedure_end

-- the level behind a node: one less where it closes a scope, one more where it opens one
unfoldable pub level_behind : ℕ → ℕ → ℕ
level_behind kind level = cond (closes kind) (level - 1) (level + cond (opens kind) 1 0)

-- ---- names

-- the byte behind the name at a place and the blanks behind it; 0 where the source ends
unfoldable pub byte_behind : List ℕ → ℕ → ℕ
byte_behind source p = get_or source (p + reach in_name (drop p source)) 0
