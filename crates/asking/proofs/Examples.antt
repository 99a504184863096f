-- What people type, read by computation: numbers at the limits, signs, words of a line, the options of a run, and lists; and readers of lists that the
-- definitions rule out.
use Prim.Native.Nat.{ℕ}
use Prim.Native.String.{String}
use mathlib.Core.Path.{◌≡◌, refl}
use mathlib.Core.Bool.{true, false}
use mathlib.Core.List.{List, [], ◌∷◌, map}
use Rattle.std.specs.Prelude.{Option, Some, None, Ok, Err}
use lib.IntN.{ℤ, pos, negsuc}
use native.Mathlib.Omega.{arith}
use Rattle.symbols.specs.Text.{bytes}
use Rattle.symbols.specs.Names.{blank, digit, value_from, equal}
use Rattle.symbols.specs.Scan.{before}
use Rattle.asking.specs.Numerals.{digits, spelled, number_of, natural_of, counted, negated, within, integer_of, whole_of}
use Rattle.asking.specs.Words.{ended, cut, words_of, has, plain, unblanked, separates, unlisted}
use Rattle.asking.specs.Sorts.{looks, is_option, is_flag, is_named, is_misfit, is_twice, is_capital, those, asked}
use Rattle.asking.specs.Options.{first_number, option_of, together, sizes_of, operands_in}
use Rattle.asking.specs.Table.{first_row, row_in, row_of, names, matched}
use Rattle.asking.specs.Lists.{list_words, sent, standing, sent_of, in_front, leading, listed_in}
use Rattle.asking.specs.declared.lists.Unlisted.TheVariants.{NoNumber, Full}
use Rattle.asking.specs.declared.sorts.Sort.TheVariants.{Misfit, Twice}
use Rattle.asking.specs.declared.sizes.Sizes.{Sizes}

-- ---- numbers

-- a text, and the whole number of 32 bits that it is
record Row : Type 0 where
  text : String
  is : Option ℤ

abbrev reads : String → ℤ → Row
reads t z = record { text = t; is = Some z }

abbrev fails : String → Row
fails t = record { text = t; is = None }

abbrev rows : List Row
rows =
    reads "2147483647" (pos 2147483647) ∷
    fails "2147483648" ∷
    reads "-2147483648" (negsuc 2147483647) ∷
    fails "-2147483649" ∷
    reads "+5" (pos 5) ∷
    reads "-0" (pos 0) ∷
    reads "007" (pos 7) ∷
    fails "" ∷
    fails "-" ∷
    fails "+" ∷
    fails "--5" ∷
    fails "1 2" ∷
    fails "two" ∷
    -- what is past 64 bits, so that it cannot come round to a small number
    fails "18446744073709551617" ∷
    []

abbrev Right : List Row → Type 0
Right [] = Unit {0}
Right (r ∷ l) = (whole_of (bytes r.text) ≡ r.is) × Right l

pub whole_numbers : Right rows
unfolding whole_of integer_of within negated counted number_of spelled digits digit value_from
whole_numbers = (refl, (refl, (refl, (refl, (refl, (refl, (refl, (refl, (refl, (refl, (refl, (refl, (refl, (refl, tt))))))))))))))

pub largest_natural : natural_of (bytes "18446744073709551615") ≡ Some 18446744073709551615
unfolding natural_of spelled digits digit value_from
largest_natural = refl

pub too_large_natural : natural_of (bytes "18446744073709551616") ≡ None
unfolding natural_of spelled digits digit value_from
too_large_natural = refl

pub natural_without_sign : natural_of (bytes "+5") ≡ None
unfolding natural_of spelled digits digit value_from
natural_without_sign = refl

-- ---- words, of a text whose blanks are the zeros of a line

abbrev line : String → List ℕ
line t = map unblanked (bytes t)

pub words_of_line : words_of (line "run a.alg -l 5 ") ≡ bytes "run" ∷ bytes "a.alg" ∷ bytes "-l" ∷ bytes "5" ∷ []
unfolding cut ended unblanked blank
words_of_line = refl

-- empty words are none, and the last word needs no zero behind it
pub empty_words : words_of (line "  run   a.alg") ≡ bytes "run" ∷ bytes "a.alg" ∷ []
unfolding cut ended unblanked blank
empty_words = refl

pub no_words : words_of (line "   ") ≡ []
unfolding cut ended unblanked blank
no_words = refl

-- every flag is passed over, and no number, no - and no option with a number is one
pub flags_passed_over : asked (words_of (line "--plain run --list a - -5 -l 3 --x")) ≡ bytes "run" ∷ bytes "a" ∷ bytes "-" ∷ bytes "-5" ∷ bytes "-l" ∷ bytes "3" ∷ []
unfolding those is_flag is_option looks digit equal cut ended unblanked blank
flags_passed_over = refl

pub plain_is_there : has (words_of (line "run a --plain")) plain ≡ true
unfolding has equal cut ended unblanked blank
plain_is_there = refl

pub plain_is_not_there : has (words_of (line "run a --plai n")) plain ≡ false
unfolding has equal cut ended unblanked blank
plain_is_not_there = refl

-- ---- rows and options

pub row_of_write : row_of (bytes "write") ≡ bytes "write FILE --plain"
unfolding row_of row_in first_row those is_named before equal
row_of_write = refl

-- no beginning of a command's word is one, and no word of another case
pub no_row : (row_of (bytes "wri") ≡ []) × (row_of (bytes "Run") ≡ []) × (row_of [] ≡ [])
unfolding row_of row_in first_row those is_named before equal
no_row = (refl, refl, refl)

pub names_of_check : names (words_of (line "check FILE LIST --plain")) ≡ bytes "FILE" ∷ bytes "LIST" ∷ []
unfolding those is_capital cut ended unblanked blank
names_of_check = refl

-- what is not a number is one's name's, and a second one where none is welcome is wrong
pub words_for_names : (matched (bytes "FILE" ∷ []) false (bytes "a" ∷ []) ≡ true) × (matched (bytes "FILE" ∷ []) false [] ≡ false)
    × (matched (bytes "FILE" ∷ []) false (bytes "a" ∷ bytes "b" ∷ []) ≡ false) × (matched (bytes "FILE" ∷ []) true (bytes "a" ∷ bytes "b" ∷ []) ≡ true)
unfolding matched
words_for_names = (refl, refl, refl, refl)

pub misfits : those Misfit (line "read FILE --plain") (words_of (line "read --json a --plain -5 -x")) ≡ bytes "--json" ∷ bytes "-x" ∷ []
unfolding those is_misfit looks digit has equal cut ended unblanked blank
misfits = refl

pub twice : those Twice [] (words_of (line "run -l 5 a 5 5 -l 6 --plain")) ≡ bytes "-l" ∷ []
unfolding those is_twice looks digit has equal cut ended unblanked blank
twice = refl

abbrev sizes_in : String → Option Sizes
sizes_in t = sizes_of (asked (words_of (line t)))

pub usual_sizes : sizes_in "a 1200 25" ≡ Some (record { limit = 1000000; cells = 8192; room = 196608 })
unfolding sizes_of together option_of first_number natural_of spelled digits digit value_from those is_flag is_option looks equal cut ended unblanked blank
usual_sizes = refl

pub asked_sizes : sizes_in "-o 0 a -l --plain 7 1200 -c 8192 -l 8" ≡ Some (record { limit = 7; cells = 8192; room = 0 })
unfolding sizes_of together option_of first_number natural_of spelled digits digit value_from those is_flag is_option looks equal cut ended unblanked blank
asked_sizes = refl

pub too_many_cells : sizes_in "a -c 8193" ≡ None
unfolding sizes_of together option_of first_number natural_of spelled digits digit value_from those is_flag is_option looks equal cut ended unblanked blank
too_many_cells = refl

pub missing_limit : sizes_in "a -l" ≡ None
unfolding sizes_of together option_of first_number natural_of spelled digits digit value_from those is_flag is_option looks equal cut ended unblanked blank
missing_limit = refl

pub words_but_options : operands_in false (words_of (line "-o 1 a 1200 -c 3 - 25 -o -l 2")) ≡ bytes "a" ∷ bytes "1200" ∷ bytes "-" ∷ bytes "25" ∷ bytes "2" ∷ []
unfolding operands_in is_option equal cut ended unblanked blank
words_but_options = refl

-- ---- lists

abbrev numbers : String → List ℤ
numbers t = leading (list_words (bytes t))

pub list_numbers : numbers "1, 21 ,1,,18" ≡ pos 1 ∷ pos 21 ∷ pos 1 ∷ pos 18 ∷ []
unfolding leading in_front sent_of standing sent integer_of negated counted number_of spelled digits digit value_from cut ended unlisted separates blank
list_numbers = refl

-- a line end separates as a blank does
pub list_lines : leading (list_words (49 ∷ 13 ∷ 10 ∷ 50 ∷ 9 ∷ 51 ∷ 10 ∷ [])) ≡ pos 1 ∷ pos 2 ∷ pos 3 ∷ []
unfolding leading in_front sent_of standing sent integer_of negated counted number_of spelled digits digit value_from cut ended unlisted separates blank
list_lines = refl

-- below 0, past 16 bits, past 64 bits: none comes round to a word
pub list_outside : numbers "65535 65536 65537 -1 -0 18446744073709551617 -18446744073709551615"
    ≡ pos 65535 ∷ negsuc 0 ∷ negsuc 0 ∷ negsuc 0 ∷ pos 0 ∷ negsuc 0 ∷ negsuc 0 ∷ []
unfolding leading in_front sent_of standing sent integer_of negated counted number_of spelled digits digit value_from cut ended unlisted separates blank
list_outside = refl

pub list_or_not : (listed_in 3 (list_words (bytes "1 2 3")) ≡ Ok 3) × (listed_in 3 (list_words (bytes "1 12x 3")) ≡ Err (NoNumber 1)) × (listed_in 2 (list_words (bytes "1 2 3")) ≡ Err Full)
unfolding listed_in leading in_front sent_of standing sent integer_of negated counted number_of spelled digits digit value_from cut ended unlisted separates blank
list_or_not = (refl, refl, refl)

-- a reader that keeps the last 16 bits of a number
pub not_kept_low : sent_of (bytes "65537") ≡ Some (pos 1) → ⊥
unfolding sent_of standing sent integer_of negated counted number_of spelled digits digit value_from
not_kept_low e = let z : ◌≡◌ {A = ℕ} 0 1 = cc in omega arith

-- one that stops at the first byte that is no digit, and takes what it has
pub not_begun : sent_of (bytes "12x") ≡ Some (pos 12) → ⊥
unfolding sent_of standing sent integer_of negated counted number_of spelled digits digit value_from
not_begun e = let z : ◌≡◌ {A = ℕ} 0 1 = cc in omega arith
