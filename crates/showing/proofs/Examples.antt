-- Places and rows, shown by computation; and readers of lines and columns that break the contract of `spot_of`.
use Prim.Native.Nat.{ℕ, ◌-◌, suc, min}
use mathlib.Core.Path.{◌≡◌, refl}
use mathlib.Core.List.{List, [], ◌∷◌, ◌++◌}
use native.Mathlib.Omega.{arith}
use Rattle.symbols.specs.Text.{bytes}
use Rattle.symbols.specs.Names.{blank, letter, digit, in_name, these, letters_at}
use Rattle.showing.specs.Characters.{two, starts_three, hidden, three, starts_four, four, width_of, width_at, begun_before, inside}
use Rattle.showing.specs.Pages.{start_of, line_of, column_of, Fills, shown_byte, shown_at, shown_in, shown_from, under_byte, under_in, marks_from}
use Rattle.table.specs.Sections.{rows_at, nodes_at}

-- ---- places

-- three lines: ab, cd, e
abbrev text : List ℕ
text = bytes "ab" ++ (10 ∷ bytes "cd") ++ (10 ∷ bytes "e")

record Spot : Type 0 where
  line : ℕ
  column : ℕ
  start : ℕ

abbrev at : ℕ → Spot
at p = record { line = line_of text p; column = column_of text p; start = start_of text p }

abbrev is : ℕ → ℕ → ℕ → Spot
is l c s = record { line = l; column = c; start = s }

-- the second letter of the second line
pub in_line : at 4 ≡ is 2 2 3
unfolding line_of column_of start_of
in_line = refl

-- a newline is the last of its line, and the place right behind it is column 1 of the next
pub on_newline : at 2 ≡ is 1 3 0
unfolding line_of column_of start_of
on_newline = refl

pub behind_newline : at 3 ≡ is 2 1 3
unfolding line_of column_of start_of
behind_newline = refl

-- behind the end the last line goes on
pub behind_end : at 9 ≡ is 3 4 6
unfolding line_of column_of start_of
behind_end = refl

-- ---- wrong readers

-- columns are not counted from 0
pub not_from_zero : ((source : List ℕ) (place : ℕ) → min place 65536 - start_of source (min place 65536) ≡ column_of source (min place 65536)) → ⊥
unfolding column_of start_of
not_from_zero reads = omega (arith, reads [] 0)

-- a newline does not begin the next line
pub not_on_newline : ((source : List ℕ) (place : ℕ) → line_of source (suc (min place 65536)) ≡ line_of source (min place 65536)) → ⊥
unfolding line_of
not_on_newline reads = omega (arith, reads text 2)

-- ---- rows

-- a name without its blanks, in a row that takes all of it, and in one that does not
pub name : Fills (letters_at (bytes "pay rate := 1") 0) (bytes "..........") (bytes "payrate...") 7
unfolding these in_name letter digit blank
name = record { counted = refl; stands = refl }

pub cut : Fills (letters_at (bytes "pay rate := 1") 0) (bytes "....") (bytes "payr") 4
unfolding these in_name letter digit blank
cut = record { counted = refl; stands = refl }

-- a line up to its newline: a carriage return as a blank, a bell as a question mark
pub line : shown_from (bytes "a" ++ (7 ∷ bytes "b") ++ (13 ∷ 10 ∷ bytes "c")) 0 ≡ bytes "a?b "
unfolding shown_from shown_in shown_at shown_byte inside begun_before width_at width_of four starts_four three hidden starts_three two
line = refl

-- characters of two, three and four bytes stand as they are
pub characters : shown_from (194 ∷ 163 ∷ 226 ∷ 130 ∷ 172 ∷ 240 ∷ 157 ∷ 132 ∷ 158 ∷ []) 0 ≡ 194 ∷ 163 ∷ 226 ∷ 130 ∷ 172 ∷ 240 ∷ 157 ∷ 132 ∷ 158 ∷ []
unfolding shown_from shown_in shown_at shown_byte inside begun_before width_at width_of four starts_four three hidden starts_three two
characters = refl

-- what controls a terminal or turns the writing round does not: escape, the byte 9B, U+009B, U+202E, U+2066, U+061C, and a character that is cut
pub unsafe : shown_from (27 ∷ 155 ∷ 194 ∷ 155 ∷ 226 ∷ 128 ∷ 174 ∷ 226 ∷ 129 ∷ 166 ∷ 216 ∷ 156 ∷ 195 ∷ []) 0 ≡ bytes "?????????????"
unfolding shown_from shown_in shown_at shown_byte inside begun_before width_at width_of four starts_four three hidden starts_three two
unsafe = refl

-- before the mark under the last of a tab, a letter, a letter of two bytes, a byte that is none, and a letter
pub mark : marks_from (9 ∷ 97 ∷ 195 ∷ 169 ∷ 155 ∷ 98 ∷ []) 0 5 ≡ 9 ∷ 32 ∷ 32 ∷ 32 ∷ []
unfolding marks_from under_in under_byte inside begun_before width_at width_of four starts_four three hidden starts_three two
mark = refl

-- ---- sections: one use, no declaration, two nodes
pub sections : (rows_at (1 ∷ 21 ∷ 1 ∷ 18 ∷ 0 ∷ 2 ∷ []) ≡ 4) × (nodes_at (1 ∷ 21 ∷ 1 ∷ 18 ∷ 0 ∷ 2 ∷ []) ≡ 5)
unfolding rows_at nodes_at
sections = (refl, refl)
