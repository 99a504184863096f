-- A value that a cell can hold, and a cell as two numbers of the store: "it takes two of the store's numbers". Assumes nothing: these are definitions.
use Rattle.std.specs.Prelude.{ℕ, ◌%◌, ◌<◌, cond, not, T, List, [], ◌∷◌, ℤ, pos, FitsSigned, ◌==◌, from_bits, nat_lt, to_bits, Float, Option, Some, None}
use Rattle.std.specs.Int.Signed.{mag}
use Rattle.std.specs.Float.{binary64}
use Rattle.std.specs.Float.Ieee.{fits}
use Rattle.std.specs.Int.{w32, w64}
use Rattle.std.proofs.Common.{to_z, of_z}
use Rattle.reals.specs.Values.{finite_b}
use Rattle.reals.specs.declared.Form.TheVariants.{Truths, Wholes, Reals}
use Rattle.reals.specs.declared.Value.{Value}
use Rattle.reals.specs.declared.Value.TheVariants.{Truth, Whole, Real}
use Rattle.reals.specs.declared.Outcome.{Outcome}
use Rattle.reals.specs.declared.Outcome.TheVariants.{Is as Given, Fault, Stray}
use Rattle.reals.specs.declared.Cell.{Cell}
use Rattle.reals.specs.declared.Cell.TheVariants.{Unset, Holds, Named}
use Rattle.reals.specs.declared.Entry.{Entry}

-- ---- what a cell can hold

-- a real: a value of 64 bits that is finite
pub record Sized (r : Float) : Type 0 where
  pub held : T (fits binary64 r)
  pub finite : T (finite_b r)

abbrev pub Fitting : Value → Type 0
Fitting (Truth b) = Unit {0}
Fitting (Whole z) = FitsSigned w32 z
Fitting (Real r) = Sized r

-- what an operator gives
abbrev pub FittingO : Outcome → Type 0
FittingO (Given v) = Fitting v
FittingO (Fault a) = Unit {0}
FittingO Stray = Unit {0}

-- an address is below 2 ^ 31, so that one behind it is still a number of 32 bits
abbrev pub FittingC : Cell → Type 0
FittingC (Unset f) = Unit {0}
FittingC (Holds v) = Fitting v
FittingC (Named a) = a < 2147483648

-- ---- a cell's two numbers: "A cell now carries its type, Boolean, whole number or 64-bit real, or that it is a name formal's"

unfoldable pub kind_of : Cell → ℤ
kind_of (Unset Wholes) = pos 0
kind_of (Unset Truths) = pos 1
kind_of (Unset Reals) = pos 2
kind_of (Holds (Truth b)) = pos 3
kind_of (Holds (Whole z)) = pos 4
kind_of (Holds (Real r)) = pos 5
kind_of (Named a) = pos 6

unfoldable pub load_of : Cell → ℤ
load_of (Unset f) = pos 0
load_of (Holds (Truth b)) = cond b (pos 1) (pos 0)
load_of (Holds (Whole z)) = z
load_of (Holds (Real r)) = to_z w64 (to_bits binary64 r)
load_of (Named a) = pos a

-- ---- and back, from any two numbers

-- the real of 64 bits: 29 is given for a constant that is no finite number
unfoldable pub bits_in : ℕ → Option Float
bits_in b = cond (finite_b (from_bits binary64 b)) (Some (from_bits binary64 b)) None

unfoldable pub whole_in : ℤ → Cell
whole_in x = cond (nat_lt (mag x) 2147483648) (Holds (Whole x)) (Unset Wholes)

unfoldable pub real_in : ℕ → Cell
real_in b = cond (finite_b (from_bits binary64 b)) (Holds (Real (from_bits binary64 b))) (Unset Reals)

-- the kind's 64 bits, and the load. What is no kind is an unassigned whole number, and a load that its kind cannot have is an unassigned one of its type
unfoldable pub cell_of : ℕ → ℤ → Cell
cell_of k x =
    cond (k == 4) (whole_in x) (cond (k == 5) (real_in (of_z w64 x)) (cond (k == 3) (Holds (Truth (not (of_z w64 x == 0))))
    (cond (k == 1) (Unset Truths) (cond (k == 2) (Unset Reals) (cond (k == 6) (Named (of_z w64 x % 2147483648)) (Unset Wholes))))))

-- ---- an entry's three numbers

abbrev pub three_of : Entry → List ℤ
three_of e = e.first ∷ e.second ∷ e.third ∷ []
