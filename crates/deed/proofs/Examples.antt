-- Commands, computed: what their words decide; and tools that the promise rules out.
use Prim.Native.Nat.{ℕ}
use Prim.Native.String.{String}
use mathlib.Core.Path.{◌≡◌, refl}
use mathlib.Core.Bool.{false}
use mathlib.Core.List.{List, [], ◌∷◌, map}
use mathlib.Core.Option.{Option, none, some}
use native.Mathlib.Omega.{arith}
use Rattle.symbols.specs.Text.{bytes}
use Rattle.symbols.specs.Names.{blank, digit, value_from, equal}
use Rattle.symbols.specs.Scan.{before}
use Rattle.asking.specs.Numerals.{digits, spelled, natural_of}
use Rattle.asking.specs.Words.{ended, cut, words_of, has, unblanked}
use Rattle.asking.specs.Sorts.{looks, is_option, is_flag, is_named, is_misfit, is_twice, is_capital, those}
use Rattle.asking.specs.Options.{first_number, option_of, together, sizes_of, operands_in}
use Rattle.asking.specs.Table.{first_row, row_in, row_of, matched}
use Rattle.desk.specs.Status.{good, bad, nothing, of_taken}
use Rattle.deed.specs.Commands.{helps, row_line, fitting, once, clash, full, sized, well_asked, settled, by_row, commanded, decided, Keeps}

-- what the words of a text decide
abbrev of : String → Option ℕ
of t = decided (words_of (map unblanked (bytes t)))

-- a text, and what its words decide
record Row : Type 0 where
  text : String
  is : Option ℕ

abbrev open_to : String → Row
open_to t = record { text = t; is = none }

abbrev wrong : String → Row
wrong t = record { text = t; is = some nothing }

abbrev right : String → Row
right t = record { text = t; is = some good }

abbrev rows : List Row
rows =
    open_to "read a" ∷
    open_to "--plain read a" ∷
    open_to "write a --plain" ∷
    open_to "check a - --plain" ∷
    open_to "uses a --list" ∷
    open_to "run -l 5 a 1 -2 - --strict" ∷
    right "help" ∷
    right "run --help" ∷
    right "-h" ∷
    wrong "" ∷
    wrong "--plain" ∷
    wrong "reed a" ∷
    wrong "read" ∷
    wrong "do" ∷
    wrong "read a b" ∷
    wrong "write a b" ∷
    wrong "read --json a" ∷
    wrong "code a --plain" ∷
    wrong "read a --plain --plain" ∷
    wrong "uses --list --plain a" ∷
    wrong "check a" ∷
    wrong "check a b c" ∷
    wrong "run a -c 8193" ∷
    wrong "run a -l" ∷
    wrong "read -l 5 a" ∷
    []

abbrev Right : List Row → Type 0
Right [] = Unit {0}
Right (r ∷ l) = (of r.text ≡ r.is) × Right l

pub commands : Right rows
unfolding decided commanded by_row settled well_asked sized full clash once fitting row_line helps matched row_of row_in first_row sizes_of together option_of first_number operands_in those is_capital is_twice is_misfit is_named is_flag is_option looks has unblanked cut ended natural_of spelled digits before equal value_from digit blank
commands = (refl, (refl, (refl, (refl, (refl, (refl, (refl, (refl, (refl, (refl, (refl, (refl, (refl, (refl, (refl, (refl, (refl, (refl, (refl, (refl, (refl, (refl, (refl, (refl, (refl, tt)))))))))))))))))))))))))

-- a second FILE passed over, and the first one refused
pub not_passed_over : Keeps (of "read a b") bad → ⊥
unfolding decided commanded by_row settled well_asked sized full clash once fitting row_line helps matched row_of row_in first_row sizes_of together option_of first_number operands_in those is_capital is_twice is_misfit is_named is_flag is_option looks has unblanked cut ended natural_of spelled digits before equal value_from digit blank
not_passed_over h = omega arith

-- an option that is none passed over, and the file said good
pub not_any_option : Keeps (of "read --json a") good → ⊥
unfolding decided commanded by_row settled well_asked sized full clash once fitting row_line helps matched row_of row_in first_row sizes_of together option_of first_number operands_in those is_capital is_twice is_misfit is_named is_flag is_option looks has unblanked cut ended natural_of spelled digits before equal value_from digit blank
not_any_option h = omega arith

-- a word that is no command, said good
pub not_any_word : Keeps (of "reed a") good → ⊥
unfolding decided commanded by_row settled well_asked sized full clash once fitting row_line helps matched row_of row_in first_row sizes_of together option_of first_number operands_in those is_capital is_twice is_misfit is_named is_flag is_option looks has unblanked cut ended natural_of spelled digits before equal value_from digit blank
not_any_word h = omega arith

-- lost output, said good
pub not_lost : (s : ℕ) → of_taken false s ≡ good → ⊥
unfolding of_taken
not_lost s h = omega arith
