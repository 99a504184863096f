-- What an operator gives is a value that a cell can hold, where its operands are: a real result is rounded to 64 bits and finite, a whole number is
-- in range.
use Rattle.std.proofs.Common.{◌≡◌, ℕ, zero, suc, Bool, true, false, cond, T, ltb, ℤ, pos, ◌+ℤ◌, ◌-ℤ◌, ◌*ℤ◌, neg_ℤ, nat_abs, sym, refl, subst, w32, SFits, ltb-true}
use lib.Signed.{mag, lt_z, quot_z}
use lib.Ieee.{Float, nan, inf, fin, binary64, add, sub, mul, div, eq, neg, of_int, fits}
use lib.Ieee.Fits.{add-fits, sub-fits, mul-fits, div-fits, of_int-fits}
use lib.Ieee.Exact.{HasValue}
use Rattle.answers.specs.Numbers.{range, zero_divisor}
use Rattle.answers.specs.Answers.{answer}
use Rattle.reals.specs.Values.{whole, is_zero, finite_b, real, nought, half, whole_of, entier, convert, apply1, both_of, on_numbers, on_truths, cut, quotient, apply2, past_by, leaves}
use Rattle.reals.specs.model.Stored.{Sized, Fitting, FittingO}
use Rattle.reals.proofs.Mixed.{becomes}
use Rattle.reals.specs.declared.Form.{Form}
use Rattle.reals.specs.declared.Form.TheVariants.{Truths, Wholes, Reals}
use Rattle.reals.specs.declared.Value.{Value}
use Rattle.reals.specs.declared.Value.TheVariants.{Truth, Whole, Real}
use Rattle.reals.specs.declared.Outcome.{Outcome}
use Rattle.reals.specs.declared.Outcome.TheVariants.{Is, Fault}
use Rattle.reals.specs.declared.Both.{Both}
use Rattle.reals.specs.declared.Both.TheVariants.{Truths as Truths2, Wholes as Wholes2, Reals as Reals2, Neither}
use Rattle.reals.specs.declared.Unary.{Unary}
use Rattle.reals.specs.declared.Unary.TheVariants.{Minus, Negation, Absolute}
use Rattle.reals.specs.declared.Binary.{Binary}
use Rattle.reals.specs.declared.Binary.TheVariants.{Plus, Less, Times, Over, Divide, Below, AtMost, Equal, AtLeast, Above, Unequal, And, Or, Impl, Equiv}

-- ---- numbers

pub whole_fits : (x : ℤ) → FittingO (whole x)
unfolding whole
whole_fits x = go (ltb (mag x) 2147483648) refl
  where
    go : (t : Bool) → ltb (mag x) 2147483648 ≡ t → FittingO (cond t (Is (Whole x)) (Fault (answer range)))
    go true e = record { sfits = ltb-true (mag x) 2147483648 e }
    go false e = tt

pub real_fits : (x : Float) → T (fits binary64 x) → FittingO (real x)
unfolding real
real_fits x h = go (finite_b x) refl
  where
    go : (t : Bool) → finite_b x ≡ t → FittingO (cond t (Is (Real x)) (Fault (answer range)))
    go true e = record { held = h; finite = subst T (sym e) tt }
    go false e = tt

-- ---- conversions

entier_fits : (x : Float) → FittingO (whole_of x)
unfolding whole_of
entier_fits nan = tt
entier_fits (inf s) = tt
entier_fits (fin s m e) = whole_fits (entier (fin s m e))

finite : (x : Float) (s : Bool) (n : ℕ) → HasValue x s n 1 → T (finite_b x)
finite nan s n v = absurd v
finite (inf t) s n v = absurd v
finite (fin t m e) s n v = tt

-- a whole number of 32 bits is a finite real
pub exact_fits : (z : ℤ) → SFits w32 z → Sized (of_int binary64 z)
exact_fits z h = record { held = of_int-fits binary64 z; finite = finite (of_int binary64 z) (lt_z z (pos 0)) (nat_abs z) (becomes z h) }

pub convert_fits : (f : Form) (v : Value) → Fitting v → FittingO (convert f v)
unfolding convert
convert_fits Truths (Truth b) h = tt
convert_fits Truths (Whole z) h = tt
convert_fits Truths (Real r) h = tt
convert_fits Wholes (Truth b) h = tt
convert_fits Wholes (Whole z) h = h
convert_fits Wholes (Real r) h = entier_fits (add binary64 r half)
convert_fits Reals (Truth b) h = tt
convert_fits Reals (Whole z) h = exact_fits z h
convert_fits Reals (Real r) h = h

-- ---- operators

neg_fits : (r : Float) → Sized r → Sized (neg r)
unfolding neg fits
neg_fits nan h = absurd h.finite
neg_fits (inf s) h = absurd h.finite
neg_fits (fin s zero e) h = record { held = h.held; finite = tt }
neg_fits (fin s (suc m) e) h = record { held = h.held; finite = tt }

pub unary_fits : (k : Unary) (v : Value) → Fitting v → FittingO (apply1 k v)
unfolding apply1
unary_fits Minus (Truth b) h = tt
unary_fits Minus (Whole x) h = whole_fits (neg_ℤ x)
unary_fits Minus (Real r) h = neg_fits r h
unary_fits Negation (Truth b) h = tt
unary_fits Negation (Whole x) h = tt
unary_fits Negation (Real r) h = tt
unary_fits Absolute (Truth b) h = tt
unary_fits Absolute (Whole x) h = whole_fits (pos (nat_abs x))
unary_fits Absolute (Real r) h = tt

cut_fits : (x y : ℤ) → FittingO (cut x y)
unfolding cut
cut_fits x y = go (is_zero y)
  where
    go : (t : Bool) → FittingO (cond t (Fault (answer zero_divisor)) (whole (quot_z x y)))
    go true = tt
    go false = whole_fits (quot_z x y)

quotient_fits : (x y : Float) → FittingO (quotient x y)
unfolding quotient
quotient_fits x y = go (eq y nought)
  where
    go : (t : Bool) → FittingO (cond t (Fault (answer zero_divisor)) (real (div binary64 x y)))
    go true = tt
    go false = real_fits (div binary64 x y) (div-fits binary64 x y)

numbers_fit : (f : ℤ → ℤ → Outcome) (g : Float → Float → Outcome) → ((x y : ℤ) → FittingO (f x y)) → ((x y : Float) → FittingO (g x y)) → (b : Both) → FittingO (on_numbers f g b)
unfolding on_numbers
numbers_fit f g p q (Truths2 x y) = tt
numbers_fit f g p q (Wholes2 x y) = p x y
numbers_fit f g p q (Reals2 x y) = q x y
numbers_fit f g p q Neither = tt

truths_fit : (f : Bool → Bool → Bool) (b : Both) → FittingO (on_truths f b)
unfolding on_truths
truths_fit f (Truths2 x y) = tt
truths_fit f (Wholes2 x y) = tt
truths_fit f (Reals2 x y) = tt
truths_fit f Neither = tt

-- whatever the operands are
pub binary_fits : (k : Binary) (a b : Value) → FittingO (apply2 k a b)
unfolding apply2
binary_fits Plus a b = numbers_fit _ _ (λ x y. whole_fits (x +ℤ y)) (λ x y. real_fits (add binary64 x y) (add-fits binary64 x y)) (both_of a b)
binary_fits Less a b = numbers_fit _ _ (λ x y. whole_fits (x -ℤ y)) (λ x y. real_fits (sub binary64 x y) (sub-fits binary64 x y)) (both_of a b)
binary_fits Times a b = numbers_fit _ _ (λ x y. whole_fits (x *ℤ y)) (λ x y. real_fits (mul binary64 x y) (mul-fits binary64 x y)) (both_of a b)
binary_fits Over a b = numbers_fit _ _ (λ x y. cut_fits x y) (λ x y. tt) (both_of a b)
binary_fits Divide a b = numbers_fit _ _ (λ x y. quotient_fits (of_int binary64 x) (of_int binary64 y)) (λ x y. quotient_fits x y) (both_of a b)
binary_fits Below a b = numbers_fit _ _ (λ x y. tt) (λ x y. tt) (both_of a b)
binary_fits AtMost a b = numbers_fit _ _ (λ x y. tt) (λ x y. tt) (both_of a b)
binary_fits Equal a b = numbers_fit _ _ (λ x y. tt) (λ x y. tt) (both_of a b)
binary_fits AtLeast a b = numbers_fit _ _ (λ x y. tt) (λ x y. tt) (both_of a b)
binary_fits Above a b = numbers_fit _ _ (λ x y. tt) (λ x y. tt) (both_of a b)
binary_fits Unequal a b = numbers_fit _ _ (λ x y. tt) (λ x y. tt) (both_of a b)
binary_fits And a b = truths_fit _ (both_of a b)
binary_fits Or a b = truths_fit _ (both_of a b)
binary_fits Impl a b = truths_fit _ (both_of a b)
binary_fits Equiv a b = truths_fit _ (both_of a b)

-- ---- the test of a step element

past_fits : (b : Both) (x : Value) → FittingO (past_by b x)
unfolding past_by
past_fits (Truths2 v y) x = tt
past_fits (Wholes2 v y) (Truth b) = tt
past_fits (Wholes2 v y) (Whole x) = tt
past_fits (Wholes2 v y) (Real x) = tt
past_fits (Reals2 v y) (Truth b) = tt
past_fits (Reals2 v y) (Whole x) = tt
past_fits (Reals2 v y) (Real x) = tt
past_fits Neither x = tt

pub leaves_fits : (v x y : Value) → FittingO (leaves v x y)
leaves_fits v x y = past_fits (both_of v y) x
