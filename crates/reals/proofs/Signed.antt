-- Signed numbers, each law once over the width: a number that fits is read back from its bits, what an operation gives at one width fits a wider
-- one, since its `mag` is bounded, and a test of bits is a test of the numbers. A use names its widths, where the powers of 2 compute.
use Rattle.std.proofs.Common.{◌≡◌, ℕ, zero, suc, ◌+◌, ◌-◌, ◌*◌, ◌/◌, ◌^◌, ◌<◌, ◌≤◌, Bool, true, false, cond, T, eqb, ltb, leb, ℤ, pos, negsuc, ◌+ℤ◌, ◌-ℤ◌, ◌*ℤ◌, neg_ℤ, nat_abs, sym, refl, ap, ◌∙◌, subst, true≢false, le_trans, lt_of_le_of_lt, mul-le-mul, pow-suc, div-le_self, arith, lit<, ltb→lt, pow_pos, pow_mono, pow-add, to_z-of_z, w8, w16, w32, w64, SFits, to_z, of_z, ltb-false, ltb-true, le-ltb, lt-ltb, eq-eqb, ne_eqb, eqb-true}
use mathlib.Core.Bool.{false≢true}
use lib.IntN.{+ℤ_idl}
use lib.Signed.{mag, lt_z, quot_z}
use lib.Pow.{pow-lt}
use mir.Syntax.{Width, w128}
use mir.Val.{hbits}
use mir.Facts.{sfits_widen}
use borrow.Author.Tests.{eqb-false}
use Rattle.reals.specs.Values.{is_zero, same, sign, whole}
use Rattle.reals.specs.declared.Value.TheVariants.{Whole}
use Rattle.reals.specs.declared.Outcome.TheVariants.{Is}

-- ---- how large a result is. `mag` is what a width bounds; `nat_abs`, one more below 0, is the same for a number and its negative

mag_cond : (t : Bool) (a b : ℕ) → mag (cond t (negsuc (b - suc a)) (pos (a - b))) ≤ a + b
mag_cond true a b = omega arith
mag_cond false a b = omega arith

mag_add : (a b : ℤ) → mag (a +ℤ b) ≤ mag a + mag b + 1
mag_add (pos a) (pos b) = omega arith
mag_add (pos a) (negsuc b) = omega (arith, mag_cond (ltb a (suc b)) a (suc b))
mag_add (negsuc a) (pos b) = omega (arith, mag_cond (ltb b (suc a)) b (suc a))
mag_add (negsuc a) (negsuc b) = omega arith

mag_abs : (a : ℤ) → mag a ≤ nat_abs a
mag_abs (pos n) = omega arith
mag_abs (negsuc n) = omega arith

abs_mag : (a : ℤ) → nat_abs a ≤ mag a + 1
abs_mag (pos n) = omega arith
abs_mag (negsuc n) = omega arith

abs_neg : (a : ℤ) → nat_abs (neg_ℤ a) ≡ nat_abs a
abs_neg (pos zero) = refl
abs_neg (pos (suc n)) = refl
abs_neg (negsuc n) = refl

-- a difference of naturals is no larger than the greater of the two
abs_cond : (t : Bool) (a b : ℕ) {k : ℕ} → a ≤ k → suc b ≤ k → nat_abs (cond t (negsuc (suc b - suc a)) (pos (a - suc b))) ≤ k
abs_cond true a b h l = omega arith
abs_cond false a b h l = omega arith

abs_sub : (a b : ℤ) → nat_abs (a -ℤ b) ≤ mag a + mag b + 1
abs_sub (pos a) (pos zero) = omega arith
abs_sub (pos a) (pos (suc b)) = abs_cond (ltb a (suc b)) a b (omega arith) (omega arith)
abs_sub (pos a) (negsuc b) = omega arith
abs_sub (negsuc a) (pos zero) = abs_cond (ltb 0 (suc a)) 0 a (omega arith) (omega arith)
abs_sub (negsuc a) (pos (suc b)) = omega arith
abs_sub (negsuc a) (negsuc b) = abs_cond (ltb (suc b) (suc a)) (suc b) a (omega arith) (omega arith)

mag_negpos : (n : ℕ) → mag (neg_ℤ (pos n)) ≤ n
mag_negpos zero = omega arith
mag_negpos (suc n) = omega arith

mag_mul : (a b : ℤ) → mag (a *ℤ b) ≤ suc (mag a) * suc (mag b)
mag_mul (pos a) (pos b) = mul-le-mul (omega arith) (omega arith)
mag_mul (pos a) (negsuc b) = le_trans (mag_negpos (a * suc b)) (mul-le-mul (omega arith) (omega arith))
mag_mul (negsuc a) (pos b) = le_trans (mag_negpos (suc a * b)) (mul-le-mul (omega arith) (omega arith))
mag_mul (negsuc a) (negsuc b) = mul-le-mul (omega arith) (omega arith)

mag_quot : (a b : ℤ) → mag (quot_z a b) ≤ suc (mag a)
mag_quot (pos a) (pos b) = omega (arith, div-le_self a b)
mag_quot (pos a) (negsuc b) = omega (arith, mag_negpos (a / suc b), div-le_self a (suc b))
mag_quot (negsuc a) (pos b) = omega (arith, mag_negpos (suc a / b), div-le_self (suc a) b)
mag_quot (negsuc a) (negsuc b) = div-le_self (suc a) (suc b)

-- a sign does not make a number larger
abs_signed : (d x : ℤ) → nat_abs (d *ℤ sign x) ≤ nat_abs d
abs_signed (pos n) (pos zero) = omega arith
abs_signed (pos n) (pos (suc m)) = omega arith
abs_signed (pos n) (negsuc m) = omega (arith, abs_neg (pos (n * 1)))
abs_signed (negsuc n) (pos zero) = omega (arith, abs_neg (pos (suc n * 0)))
abs_signed (negsuc n) (pos (suc m)) = omega (arith, abs_neg (pos (suc n * 1)))
abs_signed (negsuc n) (negsuc m) = omega arith

-- ---- a number at its width and at a wider one. The hypothesis on the two widths is `tt` where they are known

-- a number that a variant or a slice holds, read back from its bits
pub read_back : (w : Width) (a : ℤ) → mag a < 2 ^ hbits w → to_z w (of_z w a) ≡ a
read_back w a h = to_z-of_z (record { sfits = h })

-- and it fits again
pub again : (w : Width) (a : ℤ) → mag a < 2 ^ hbits w → SFits w (to_z w (of_z w a))
again w a h = rw (read_back w a h) (record { sfits = h })

-- as wide or wider: the number itself, though it goes through the bits
module _ (v w : Width) (narrower : T (leb (hbits v) (hbits w))) {a : ℤ} (h : SFits v a) where
  pub wide_same : to_z w (of_z w (to_z v (of_z v a))) ≡ a
  wide_same = ap (λ (z : ℤ). to_z w (of_z w z)) (to_z-of_z h) ∙ to_z-of_z (sfits_widen narrower h)

  pub wide_fits : SFits w (to_z v (of_z v a))
  wide_fits = subst (SFits w) (sym (to_z-of_z h)) (sfits_widen narrower h)

  -- and back from the wider one
  pub narrow_same : to_z v (of_z v (to_z w (of_z w a))) ≡ a
  narrow_same = ap (λ (z : ℤ). to_z v (of_z v z)) (to_z-of_z (sfits_widen narrower h)) ∙ to_z-of_z h

  pub narrow_fits : SFits v (to_z w (of_z w a))
  narrow_fits = subst (SFits v) (sym (to_z-of_z (sfits_widen narrower h))) h

-- one bit more holds a sum, a difference, one times a sign, a negative and a quotient
module _ (v w : Width) (wider : T (ltb (hbits v) (hbits w))) where
  twice : 2 ^ hbits v + 2 ^ hbits v ≤ 2 ^ hbits w
  twice = omega (arith, pow-suc 2 (hbits v), pow_mono (ltb→lt (hbits v) (hbits w) wider))

  module _ {a b : ℤ} (ha : SFits v a) (hb : SFits v b) where
    pub sum_fits : SFits w (a +ℤ b)
    sum_fits = record { sfits = omega (arith, mag_add a b, ha.sfits, hb.sfits, twice) }

    pub diff_fits : SFits w (a -ℤ b)
    diff_fits = record { sfits = omega (arith, mag_abs (a -ℤ b), abs_sub a b, ha.sfits, hb.sfits, twice) }

    pub past_fits : (x : ℤ) → SFits w ((a -ℤ b) *ℤ sign x)
    past_fits x = record { sfits = omega (arith, mag_abs ((a -ℤ b) *ℤ sign x), abs_signed (a -ℤ b) x, abs_sub a b, ha.sfits, hb.sfits, twice) }

  pub neg_fits : {a : ℤ} → SFits v a → SFits w (neg_ℤ a)
  neg_fits {a} h = record { sfits = omega (arith, mag_abs (neg_ℤ a), abs_neg a, abs_mag a, h.sfits, twice) }

  pub quot_fits : {a : ℤ} (b : ℤ) → SFits v a → SFits w (quot_z a b)
  quot_fits {a} b h = record { sfits = omega (arith, mag_quot a b, h.sfits, twice) }

-- twice the bits hold a product
pub prod_fits : (v w : Width) → T (ltb (hbits v + hbits v) (hbits w)) → {a b : ℤ} → SFits v a → SFits v b → SFits w (a *ℤ b)
prod_fits v w double {a} {b} ha hb =
    record {
      sfits =
          lt_of_le_of_lt
          (le_trans (mag_mul a b) (mul-le-mul ha.sfits hb.sfits))
          (subst (λ (n : ℕ). n < 2 ^ hbits w) (pow-add 2 (hbits v) (hbits v)) (pow-lt (ltb→lt (hbits v + hbits v) (hbits w) double)));
    }

-- ---- the ends of a width

pub low_out : (w : Width) (x : ℤ) → lt_z x (negsuc (2 ^ hbits w - 1)) ≡ true → ltb (mag x) (2 ^ hbits w) ≡ false
low_out w (pos n) e = absurd (false≢true e)
low_out w (negsuc n) e = le-ltb n (2 ^ hbits w) (omega (arith, ltb-true (2 ^ hbits w - 1) n e))

pub high_out : (w : Width) (x : ℤ) → lt_z (pos (2 ^ hbits w - 1)) x ≡ true → ltb (mag x) (2 ^ hbits w) ≡ false
high_out w (pos n) e = le-ltb n (2 ^ hbits w) (omega (arith, ltb-true (2 ^ hbits w - 1) n e))
high_out w (negsuc n) e = absurd (false≢true e)

pub between : (w : Width) (x : ℤ) → lt_z x (negsuc (2 ^ hbits w - 1)) ≡ false → lt_z (pos (2 ^ hbits w - 1)) x ≡ false → SFits w x
between w (pos n) e f = record { sfits = omega (arith, ltb-false (2 ^ hbits w - 1) n f, pow_pos (hbits w)) }
between w (negsuc n) e f = record { sfits = omega (arith, ltb-false (2 ^ hbits w - 1) n e, pow_pos (hbits w)) }

-- ---- tests on bits, for any width

module _ {w : Width} {x y : ℤ} (hx : SFits w x) (hy : SFits w y) where
  pub same_number : of_z w x ≡ of_z w y → x ≡ y
  same_number e = sym (to_z-of_z hx) ∙ ap (to_z w) e ∙ to_z-of_z hy

same_refl : (x : ℤ) → same x x ≡ true
same_refl (pos n) = eq-eqb n n refl
same_refl (negsuc n) = eq-eqb n n refl

pub same_yes : {x y : ℤ} → x ≡ y → same x y ≡ true
same_yes {x} {y} e = rw e (same_refl y)

pub same_no : (x y : ℤ) → (x ≡ y → ⊥) → same x y ≡ false
same_no (pos m) (pos n) h = ne_eqb m n (λ e. h (ap pos e))
same_no (pos m) (negsuc n) h = refl
same_no (negsuc m) (pos n) h = refl
same_no (negsuc m) (negsuc n) h = ne_eqb m n (λ e. h (ap negsuc e))

pub zero_yes : (w : Width) {y : ℤ} → SFits w y → of_z w y ≡ 0 → is_zero y ≡ true
zero_yes w {y} h e = ap is_zero (same_number {w = w} {x = y} {y = pos 0} h (record { sfits = pow_pos (hbits w) }) e)

pub zero_no : (w : Width) (y : ℤ) → (of_z w y ≡ 0 → ⊥) → is_zero y ≡ false
zero_no w (pos n) h = ne_eqb n 0 h
zero_no w (negsuc n) h = refl

pub bits_pos : (n : ℕ) → (n ≡ 0 → ⊥) → 0 < n
bits_pos zero e = absurd (e refl)
bits_pos (suc n) e = omega arith

-- ---- the sign

sign_mag : (x : ℤ) → mag (sign x) ≤ 1
sign_mag (pos zero) = omega arith
sign_mag (pos (suc n)) = omega arith
sign_mag (negsuc n) = omega arith

-- 1 is a number of every width
one_below : (w : Width) → 1 < 2 ^ hbits w
one_below w8 = lit< tt
one_below w16 = lit< tt
one_below w32 = lit< tt
one_below w64 = lit< tt
one_below w128 = lit< tt

pub sign_fits : (w : Width) (x : ℤ) → SFits w (sign x)
sign_fits w x = record { sfits = omega (arith, sign_mag x, one_below w) }

-- ---- the absolute value, and the whole numbers

pub absolute_below : (x : ℤ) → lt_z x (pos 0) ≡ true → neg_ℤ x ≡ pos (nat_abs x)
absolute_below (pos n) e = absurd (omega (arith, ltb-true n 0 e))
absolute_below (negsuc n) e = refl

pub absolute_above : (x : ℤ) → lt_z x (pos 0) ≡ false → pos (nat_abs x) ≡ x
absolute_above (pos n) e = refl
absolute_above (negsuc n) e = absurd (true≢false e)

-- `whole` is a range of the rules, of 32 bits alone
pub whole_is : (x : ℤ) → SFits w32 x → whole x ≡ Is (Whole x)
unfolding whole
whole_is x h = simp (lt-ltb (mag x) 2147483648 h.sfits)

-- ---- what a comparison of bits says

module _ (w : Width) where
  pub same_bits : {x y : ℤ} → SFits w x → SFits w y → eqb (of_z w x) (of_z w y) ≡ same x y
  same_bits {x} {y} hx hy = go (eqb (of_z w x) (of_z w y)) refl
    where
      go : (b : Bool) → eqb (of_z w x) (of_z w y) ≡ b → b ≡ same x y
      go true e = sym (same_yes (same_number hx hy (eqb-true _ _ e)))
      go false e = sym (same_no x y (λ p. eqb-false _ _ e (ap (of_z w) p)))

  pub zero_bits : {x : ℤ} → SFits w x → eqb (of_z w x) 0 ≡ is_zero x
  zero_bits {x} h = same_bits {x = x} {y = pos 0} h (record { sfits = pow_pos (hbits w) }) ∙ same_zero x
    where
      same_zero : (x : ℤ) → same x (pos 0) ≡ is_zero x
      same_zero (pos n) = refl
      same_zero (negsuc n) = refl

pub zero_minus : (a : ℤ) → pos 0 -ℤ a ≡ neg_ℤ a
zero_minus a = +ℤ_idl (neg_ℤ a)

pub not_zero_bits : (w : Width) {x : ℤ} → SFits w x → is_zero x ≡ false → of_z w x ≡ 0 → ⊥
not_zero_bits w {x} h e z = true≢false (sym (zero_yes w h z) ∙ e)

-- ---- a test for 1

pub one_yes : (w : Width) {k : ℤ} → SFits w k → of_z w k ≡ 1 → same k (pos 1) ≡ true
one_yes w {k} h e = same_yes (same_number {w = w} {x = k} {y = pos 1} h (record { sfits = one_below w }) e)

pub one_no : (w : Width) (k : ℤ) → (of_z w k ≡ 1 → ⊥) → same k (pos 1) ≡ false
one_no w k h = same_no k (pos 1) (λ e. h (ap (of_z w) e))
