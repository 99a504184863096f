-- What is encoded is read back (`decoded`), and any two numbers are read as a cell that fits (`fitting_of`), so the store needs no invariant.
-- A cell by its kind's bits has one law an arm: the kind is a variable there, so that nothing large is computed.
use Rattle.std.proofs.Common.{◌≡◌, ℕ, ◌%◌, ◌<◌, Bool, true, false, cond, not, T, eqb, ltb, ℤ, pos, sym, refl, ap, ◌∙◌, subst, arith, w64, to_z, of_z, ltb-true, lt-ltb, ne_eqb}
use lib.Signed.{mag}
use lib.Ieee.{Float, binary64, of_bits, to_bits, fits}
use lib.Ieee.Bits.{of_bits-to_bits, of_bits-fits}
use mir.Facts.{to_z_pos}
use Rattle.reals.specs.Values.{finite_b}
use Rattle.reals.specs.model.Stored.{Sized, FittingC, kind_of, load_of, bits_in, whole_in, real_in, cell_of}
use Rattle.reals.specs.declared.Form.{Form}
use Rattle.reals.specs.declared.Form.TheVariants.{Truths, Wholes, Reals}
use Rattle.reals.specs.declared.Value.TheVariants.{Truth, Whole, Real}
use Rattle.reals.specs.declared.Cell.{Cell}
use Rattle.reals.specs.declared.Cell.TheVariants.{Unset, Holds, Named}
use Rattle.std.specs.Prelude.{Option, Some, None}
use Rattle.reals.proofs.Patterns.{sized_true, long_back}

-- ---- what is encoded is read back

truth_back : (b : Bool) → not (eqb (of_z w64 (cond b (pos 1) (pos 0))) 0) ≡ b
truth_back true = refl
truth_back false = refl

real_in_lem : (r : Float) → Sized r → real_in (to_bits binary64 r) ≡ Holds (Real r)
unfolding real_in
real_in_lem r h = simp (of_bits-to_bits binary64 r h.held, sized_true r h)

small : (n : ℕ) → n < 2147483648 → n % 2147483648 ≡ n
small n h = omega arith

pub decoded : (x : Cell) → FittingC x → cell_of (of_z w64 (kind_of x)) (load_of x) ≡ x
unfolding cell_of kind_of load_of whole_in
decoded (Unset Truths) h = refl
decoded (Unset Wholes) h = refl
decoded (Unset Reals) h = refl
decoded (Holds (Truth b)) h = ap (λ (t : Bool). Holds (Truth t)) (truth_back b)
decoded (Holds (Whole z)) h = simp (lt-ltb (mag z) 2147483648 h.sfits)
decoded (Holds (Real r)) h = ap real_in (long_back r h.held) ∙ real_in_lem r h
decoded (Named a) h = ap Named (small a h)

-- ---- any two numbers are a cell that fits

whole_fitting : (x : ℤ) → FittingC (whole_in x)
unfolding whole_in
whole_fitting x = go (ltb (mag x) 2147483648) refl
  where
    go : (t : Bool) → ltb (mag x) 2147483648 ≡ t → FittingC (cond t (Holds (Whole x)) (Unset Wholes))
    go true e = record { sfits = ltb-true (mag x) 2147483648 e }
    go false e = tt

real_fitting : (b : ℕ) → FittingC (real_in b)
unfolding real_in
real_fitting b = go (finite_b (of_bits binary64 b)) refl
  where
    go : (t : Bool) → finite_b (of_bits binary64 b) ≡ t → FittingC (cond t (Holds (Real (of_bits binary64 b))) (Unset Reals))
    go true e = record { held = of_bits-fits binary64 b; finite = subst T (sym e) tt }
    go false e = tt

pub fitting_of : (k : ℕ) (x : ℤ) → FittingC (cell_of k x)
unfolding cell_of
fitting_of k x =
    either (whole_in x) _ (eqb k 4) (whole_fitting x)
    (either (real_in (of_z w64 x)) _ (eqb k 5) (real_fitting (of_z w64 x))
    (either (Holds (Truth (not (eqb (of_z w64 x) 0)))) _ (eqb k 3) tt
    (either (Unset Truths) _ (eqb k 1) tt
    (either (Unset Reals) _ (eqb k 2) tt
    (either (Named (of_z w64 x % 2147483648)) (Unset Wholes) (eqb k 6) (low (of_z w64 x)) tt)))))
  where
    low : (n : ℕ) → n % 2147483648 < 2147483648
    low n = omega arith

    either : (a b : Cell) (t : Bool) → FittingC a → FittingC b → FittingC (cond t a b)
    either a b true p q = p
    either a b false p q = q

-- ---- numbers that go through 64 bits

pub truth_again : (b : Bool) → to_z w64 (of_z w64 (load_of (Holds (Truth b)))) ≡ load_of (Holds (Truth b))
unfolding load_of
truth_again true = refl
truth_again false = refl

pub kind_again : (f : Form) → to_z w64 (of_z w64 (kind_of (Unset f))) ≡ kind_of (Unset f)
unfolding kind_of
kind_again Truths = refl
kind_again Wholes = refl
kind_again Reals = refl

pub long_again : (r : Float) → T (fits binary64 r) → to_z w64 (of_z w64 (to_z w64 (to_bits binary64 r))) ≡ to_z w64 (to_bits binary64 r)
long_again r h = ap (to_z w64) (long_back r h)

pub narrow : (n : ℕ) → n < 4294967296 → to_z w64 n ≡ pos n
narrow n h = to_z_pos w64 (omega arith)

-- ---- the arms

-- a real's bits, as a cell
abbrev pub as_cell : Option Float → Cell
as_cell (Some r) = Holds (Real r)
as_cell None = Unset Reals

pub cell_of_bits : (b : ℕ) → as_cell (bits_in b) ≡ real_in b
unfolding bits_in real_in
cell_of_bits b = go (finite_b (of_bits binary64 b))
  where
    go : (t : Bool) → as_cell (cond t (Some (of_bits binary64 b)) None) ≡ cond t (Holds (Real (of_bits binary64 b))) (Unset Reals)
    go true = refl
    go false = refl

module _ (x : ℤ) where
  pub of_1 : {k : ℕ} → k ≡ 1 → Unset Truths ≡ cell_of k x
  unfolding cell_of
  of_1 e = rw e

  pub of_2 : {k : ℕ} → k ≡ 2 → Unset Reals ≡ cell_of k x
  unfolding cell_of
  of_2 e = rw e

  pub of_3 : {k : ℕ} → k ≡ 3 → Holds (Truth (not (eqb (of_z w64 x) 0))) ≡ cell_of k x
  unfolding cell_of
  of_3 e = rw e

  pub of_4 : {k : ℕ} → k ≡ 4 → whole_in x ≡ cell_of k x
  unfolding cell_of
  of_4 e = rw e

  pub of_5 : {k : ℕ} → k ≡ 5 → real_in (of_z w64 x) ≡ cell_of k x
  unfolding cell_of
  of_5 e = rw e

  pub of_6 : {k : ℕ} → k ≡ 6 → Named (of_z w64 x % 2147483648) ≡ cell_of k x
  unfolding cell_of
  of_6 e = rw e

  -- in the order of the code's arms
  pub of_rest : {k : ℕ} → (((((Unit {0} × (k ≡ 4 → ⊥)) × (k ≡ 5 → ⊥)) × (k ≡ 3 → ⊥)) × (k ≡ 1 → ⊥)) × (k ≡ 2 → ⊥)) × (k ≡ 6 → ⊥) → Unset Wholes ≡ cell_of k x
  unfolding cell_of
  of_rest {k} n =
      simp (ne_eqb k 6 n.1, ne_eqb k 2 n.0.1, ne_eqb k 1 n.0.0.1, ne_eqb k 3 n.0.0.0.1, ne_eqb k 5 n.0.0.0.0.1, ne_eqb k 4 n.0.0.0.0.0.1)
