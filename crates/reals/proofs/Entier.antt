-- entier is the greatest whole number that is not above a real (`entier_over`, `entier_under`), and the code's tests say where its number of 32 bits
-- ends. Each goes by the fraction n / d that a real is.
use Rattle.std.proofs.Common.{◌≡◌, ℕ, zero, suc, ◌+◌, ◌-◌, ◌*◌, ◌/◌, ◌%◌, ◌<◌, ◌≤◌, min, Bool, true, false, cond, not, ◌&&◌, ◌||◌, T, eqb, ltb, ℤ, pos, negsuc, ◌-ℤ◌, neg_ℤ, sym, refl, ap, ◌∙◌, subst, true≢false, mod-lt, suc-mul, div-lt_iff_lt-mul, le_antisymm, lt_of_mul-lt-mul_right, div-add-mod', le-div_iff_mul-le, mul-one, mul_right_comm, arith, w32, w64, SFits, to_z, ltb-false, ltb-true, le-ltb, lt-ltb, eqb-true}
use native.Mathlib.Nat.{zero-div, zero-mod, mul-mod_left}
use mathlib.Core.Bool.{false≢true}
use lib.IntN.{+ℤ_idl}
use lib.Signed.{mag}
use lib.Ieee.{Float, nan, inf, fin, binary64, up, down, round, lt, le, eq, neg, of_int, to_unsigned}
use lib.Ieee.Fits.{down_pos}
use lib.Ieee.Exact.{HasValue}
use lib.Ieee.Back.{round_whole}
use mir.Facts.{to_z_pos}
use borrow.Author.Tests.{eqb-false}
use Rattle.answers.specs.Numbers.{range}
use Rattle.answers.specs.Answers.{answer}
use Rattle.reals.specs.declared.Outcome.TheVariants.{Fault}
use Rattle.reals.specs.Values.{downward, entier, whole, whole_of, nought}
use Rattle.reals.proofs.Mixed.{scale}

-- a real of at most 2 ^ 31 either way: where entier is worked out
abbrev pub Within : Float → Type 0
Within nan = ⊥
Within (inf s) = ⊥
Within (fin s m e) = m * up e ≤ 2147483648 * down e

-- ---- quotients

quot_lt : (n d k : ℕ) → 0 < d → n < k * d → n / d < k
quot_lt n d k h l = (div-lt_iff_lt-mul h).1 l

quot_ge : (n d k : ℕ) → 0 < d → k * d ≤ n → k ≤ n / d
quot_ge n d k h l = (le-div_iff_mul-le h).1 l

-- entier is the greatest whole number not above x = ± n / d:  q ≤ n / d < q + 1;  −q ≤ − n / d < −q + 1, with q one more where d does not divide n
pub floor_low : (n d : ℕ) → n / d * d ≤ n
floor_low n d = omega (arith, div-add-mod' n d)

pub floor_high : (n d : ℕ) → 0 < d → n < n / d * d + d
floor_high n d h = omega (arith, div-add-mod' n d, mod-lt n h)

-- ---- tests

or_le : (a b : ℕ) (r : Bool) → (ltb b a || (eqb a b && r)) ≡ true → b ≤ a
or_le a b r e = go (ltb b a) (eqb a b) refl refl e
  where
    go : (s t : Bool) → ltb b a ≡ s → eqb a b ≡ t → (s || (t && r)) ≡ true → b ≤ a
    go true t p q e = omega (arith, ltb-true b a p)
    go false true p q e = omega (arith, eqb-true a b q)
    go false false p q e = absurd (false≢true e)

-- a ≤ b or not, as `le` has it for two numbers of one sign
or_no : (a b : ℕ) → a ≤ b → (ltb a b || (eqb a b && true)) ≡ false → ⊥
or_no a b l e = go (ltb a b) (eqb a b) refl refl e
  where
    go : (s t : Bool) → ltb a b ≡ s → eqb a b ≡ t → (s || (t && true)) ≡ false → ⊥
    go true t p q e = true≢false e
    go false true p q e = true≢false e
    go false false p q e = eqb-false a b q (omega (arith, ltb-false a b p))

or_gt : (a b : ℕ) → (ltb b a || (eqb a b && true)) ≡ false → a < b
or_gt a b e = go (ltb a b) refl
  where
    both : (s t : Bool) → ltb b a ≡ s → eqb a b ≡ t → (s || (t && true)) ≡ false → b ≤ a → ⊥
    both true t p q e h = true≢false e
    both false true p q e h = true≢false e
    both false false p q e h = eqb-false a b q (omega (arith, ltb-false b a p))

    go : (t : Bool) → ltb a b ≡ t → a < b
    go true p = ltb-true a b p
    go false p = absurd (both (ltb b a) (eqb a b) refl refl e (ltb-false a b p))

-- a whole number against a fraction
against : (y : Float) (q m : ℕ) (e : ℤ) → HasValue y false q 1 → lt y (fin false m e) ≡ ltb (q * down e) (m * up e)
unfolding lt
against nan q m e v = absurd v
against (inf s) q m e v = absurd v
against (fin true n d) q m e v = absurd (true≢false v.0)
against (fin false n d) q m e v =
    let a : n * up d * down e ≡ q * down e * down d = ap (λ (z : ℕ). z * down e) (sym (mul-one (n * up d)) ∙ v.1) ∙ mul_right_comm q (down d) (down e) in
    rw a (scale (q * down e) (m * up e) (down d) (down_pos d))

pub whole_against : (q m : ℕ) (e : ℤ) → q ≤ 9007199254740992 → lt (of_int binary64 (pos q)) (fin false m e) ≡ ltb (q * down e) (m * up e)
unfolding of_int
whole_against q m e h = against (round binary64 false q 1) q m e (round_whole binary64 false q h)

-- ---- not below 0

-- what `truncating_f64_to_u64` asks
abbrev pub Cut : Float → Type 0
Cut t = T (lt (fin true 1 (pos 0)) t) × T (lt t (fin false 1 (pos 64)))

yes : (b : Bool) → b ≡ true → T b
yes b e = subst T (sym e) tt

cut_plus : (m : ℕ) (e : ℤ) → m * up e ≤ 2147483648 * down e → Cut (fin false m e)
unfolding lt
cut_plus m e h = (yes (ltb 0 (1 * 1 * down e + m * up e * 1)) (lt-ltb 0 _ (some (down e) (m * up e) (down_pos e))), yes (ltb (m * up e * 1) (1 * 18446744073709551616 * down e)) (lt-ltb _ _ (less (m * up e) (down e) (down_pos e) h)))
  where
    some : (d n : ℕ) → 0 < d → 0 < 1 * 1 * d + n * 1
    some d n p = omega arith

    less : (n d : ℕ) → 0 < d → n ≤ 2147483648 * d → n * 1 < 1 * 18446744073709551616 * d
    less n d p h = omega arith

none : (n d : ℕ) (r : Bool) → (eqb (0 * 1 * d) (n * 1) && r) ≡ true → n ≡ 0
none n d r e = go (eqb (0 * 1 * d) (n * 1)) refl e
  where
    go : (t : Bool) → eqb (0 * 1 * d) (n * 1) ≡ t → (t && r) ≡ true → n ≡ 0
    go true p e = omega (arith, eqb-true (0 * 1 * d) (n * 1) p)
    go false p e = absurd (false≢true e)

pub cut_over : (t : Float) → Within t → le nought t ≡ true → Cut t
unfolding le lt eq
cut_over nan w h = absurd w
cut_over (inf s) w h = absurd w
cut_over (fin false m e) w h = cut_plus m e w
cut_over (fin true m e) w h =
    let z : m * up e ≡ 0 = none (m * up e) (down e) (false || eqb (0 * 1 * down e) 0) h in
    (yes (ltb (m * up e * 1) (1 * 1 * down e)) (lt-ltb _ _ (zeroth (m * up e) (down e) z (down_pos e))), yes (ltb 0 (m * up e * 1 + 1 * 18446744073709551616 * down e)) (lt-ltb _ _ (some (m * up e) (down e) (down_pos e))))
  where
    zeroth : (n d : ℕ) → n ≡ 0 → 0 < d → n * 1 < 1 * 1 * d
    zeroth n d z p = omega arith

    some : (n d : ℕ) → 0 < d → 0 < n * 1 + 1 * 18446744073709551616 * d
    some n d p = omega arith

-- the quotient is small, so nothing is brought to the end of the range
small : (n d : ℕ) → 0 < d → n ≤ 2147483648 * d → n / d ≤ 2147483648
small n d p h = omega (arith, quot_lt n d 2147483649 p (omega arith))

capped : (q : ℕ) → q ≤ 2147483648 → min q 18446744073709551615 ≡ q
capped q h = omega arith

pub over_small : (t : Float) → Within t → to_unsigned 64 t ≤ 2147483648
unfolding to_unsigned
over_small nan w = absurd w
over_small (inf s) w = absurd w
over_small (fin true m e) w = omega arith
over_small (fin false m e) w = rw (capped (m * up e / down e) (small (m * up e) (down e) (down_pos e) w)) (small (m * up e) (down e) (down_pos e) w)

pub over_is : (t : Float) → Within t → le nought t ≡ true → pos (to_unsigned 64 t) ≡ entier t
unfolding to_unsigned entier le lt eq
over_is nan w h = absurd w
over_is (inf s) w h = absurd w
over_is (fin false m e) w h = ap pos (capped (m * up e / down e) (small (m * up e) (down e) (down_pos e) w))
over_is (fin true m e) w h = sym (go (m * up e) (down e) (none (m * up e) (down e) (false || eqb (0 * 1 * down e) 0) h))
  where
    go : (n d : ℕ) → n ≡ 0 → downward n d ≡ pos 0
    go n d z = rw (z, zero-mod d, zero-div d)

-- ---- below 0

-- t is −m * 2 ^ e, and the code works on m * 2 ^ e
pub cut_under : (t : Float) → Within t → le nought t ≡ false → Cut (neg t)
unfolding le lt eq neg
cut_under nan w h = absurd w
cut_under (inf s) w h = absurd w
cut_under (fin true m e) w h = cut_plus m e w
cut_under (fin false m e) w h = absurd (not_less (m * up e) (down e) h)
  where
    not_less : (n d : ℕ) → (ltb (0 * 1 * d) (n * 1) || (eqb (0 * 1 * d) (n * 1) && true)) ≡ false → ⊥
    not_less n d e = or_no (0 * 1 * d) (n * 1) (omega arith) e

-- what the code has for the quotient
part : (m : ℕ) (e : ℤ) → m * up e ≤ 2147483648 * down e → to_unsigned 64 (fin false m e) ≡ m * up e / down e
unfolding to_unsigned
part m e w = capped (m * up e / down e) (small (m * up e) (down e) (down_pos e) w)

pub under_small : (t : Float) → Within t → to_unsigned 64 (neg t) ≤ 2147483648
unfolding neg
under_small nan w = absurd w
under_small (inf s) w = absurd w
under_small (fin s m e) w = over_small (fin (not s) m e) w

-- where the whole number is below the fraction, d does not divide n
split : (n d : ℕ) → 0 < d → ltb (n / d * d) n ≡ not (eqb (n % d) 0)
split n d p = go (eqb (n % d) 0) refl
  where
    go : (t : Bool) → eqb (n % d) 0 ≡ t → ltb (n / d * d) n ≡ not t
    go true e = le-ltb (n / d * d) n (omega (arith, div-add-mod' n d, eqb-true (n % d) 0 e))
    go false e = lt-ltb (n / d * d) n (less (eqb-false (n % d) 0 e))
      where
        less : (n % d ≡ 0 → ⊥) → n / d * d < n
        less f = omega (arith, div-add-mod' n d, f)

under_test : (m : ℕ) (e : ℤ) → m * up e ≤ 2147483648 * down e → lt (of_int binary64 (pos (m * up e / down e))) (fin false m e) ≡ not (eqb (m * up e % down e) 0)
under_test m e w =
    whole_against (m * up e / down e) m e (omega (arith, small (m * up e) (down e) (down_pos e) w)) ∙ split (m * up e) (down e) (down_pos e)

pub under_is : (t : Float) (u : ℕ) → Within t → le nought t ≡ false → u ≡ to_unsigned 64 (neg t)
    → entier t ≡ cond (lt (of_int binary64 (pos u)) (neg t)) (negsuc u) (neg_ℤ (pos u))
unfolding entier le lt eq neg
under_is nan u w h k = absurd w
under_is (inf s) u w h k = absurd w
under_is (fin false m e) u w h k = absurd (or_no (0 * 1 * down e) (m * up e * 1) (omega arith) h)
under_is (fin true m e) u w h k =
    let q : u ≡ m * up e / down e = k ∙ part m e w in
    rw q (turn (eqb (m * up e % down e) 0) (lt (of_int binary64 (pos (m * up e / down e))) (fin false m e)) (under_test m e w) (m * up e / down e))
  where
    turn : (s t : Bool) → t ≡ not s → (q : ℕ) → cond s (neg_ℤ (pos q)) (negsuc q) ≡ cond t (negsuc q) (neg_ℤ (pos q))
    turn true true p q = absurd (true≢false p)
    turn true false p q = refl
    turn false true p q = refl
    turn false false p q = absurd (false≢true p)

-- ---- the range

pub in_range : (t : Float) → lt t (fin false 1 (pos 31)) ≡ true → le (fin true 1 (pos 31)) t ≡ true → Within t
unfolding le lt eq
in_range nan h k = absurd (false≢true h)
in_range (inf true) h k = absurd (false≢true k)
in_range (inf false) h k = absurd (false≢true h)
in_range (fin false m e) h k = omega (arith, ltb-true (m * up e * 1) (1 * 2147483648 * down e) h)
in_range (fin true m e) h k = omega (arith, or_le (1 * 2147483648 * down e) (m * up e * 1) true k)

neg_mag : (q : ℕ) → mag (neg_ℤ (pos q)) ≡ q - 1
neg_mag zero = refl
neg_mag (suc q) = omega arith

-- −n / d, with n / d at most 2 ^ 31, and past it
down_fits : (n d : ℕ) → 0 < d → n ≤ 2147483648 * d → mag (downward n d) < 2147483648
down_fits n d p h = go (eqb (n % d) 0) refl
  where
    go : (t : Bool) → eqb (n % d) 0 ≡ t → mag (cond t (neg_ℤ (pos (n / d))) (negsuc (n / d))) < 2147483648
    go true e = rw (neg_mag (n / d)) (omega (arith, small n d p h))
    go false e = quot_lt n d 2147483648 p (less (eqb-false (n % d) 0 e))
      where
        less : (n % d ≡ 0 → ⊥) → n < 2147483648 * d
        less f = by (ltb n (2147483648 * d)) refl
          where
            by : (t : Bool) → ltb n (2147483648 * d) ≡ t → n < 2147483648 * d
            by true k = ltb-true n (2147483648 * d) k
            by false k = absurd (f (ap (λ (z : ℕ). z % d) (le_antisymm h (ltb-false n (2147483648 * d) k)) ∙ mul-mod_left 2147483648 d))

down_past : (n d : ℕ) → 0 < d → 2147483648 * d < n → 2147483648 ≤ mag (downward n d)
down_past n d p h = go (eqb (n % d) 0) refl
  where
    go : (t : Bool) → eqb (n % d) 0 ≡ t → 2147483648 ≤ mag (cond t (neg_ℤ (pos (n / d))) (negsuc (n / d)))
    go true e = rw (neg_mag (n / d)) (omega (arith, more (eqb-true (n % d) 0 e)))
      where
        more : n % d ≡ 0 → 2147483648 < n / d
        more z = lt_of_mul-lt-mul_right d (omega (arith, div-add-mod' n d))
    go false e = quot_ge n d 2147483648 p (omega arith)

pub entier_fits : (t : Float) → Within t → lt t (fin false 1 (pos 31)) ≡ true → SFits w32 (entier t)
unfolding entier lt
entier_fits nan w h = absurd w
entier_fits (inf s) w h = absurd w
entier_fits (fin false m e) w h = record { sfits = quot_lt (m * up e) (down e) 2147483648 (down_pos e) (omega (arith, ltb-true (m * up e * 1) (1 * 2147483648 * down e) h)) }
entier_fits (fin true m e) w h = record { sfits = down_fits (m * up e) (down e) (down_pos e) w }

whole_none : (z : ℤ) → 2147483648 ≤ mag z → whole z ≡ Fault (answer range)
unfolding whole
whole_none z h = simp (le-ltb (mag z) 2147483648 h)

pub of_within : (t : Float) → Within t → whole_of t ≡ whole (entier t)
unfolding whole_of
of_within nan w = absurd w
of_within (inf s) w = absurd w
of_within (fin s m e) w = refl

-- too large, and too small
pub too_large : (t : Float) → lt t (fin false 1 (pos 31)) ≡ false → Fault (answer range) ≡ whole_of t
unfolding whole_of entier lt
too_large nan h = refl
too_large (inf true) h = refl
too_large (inf false) h = refl
too_large (fin false m e) h = sym (whole_none _ (quot_ge (m * up e) (down e) 2147483648 (down_pos e) (omega (arith, ltb-false (m * up e * 1) (1 * 2147483648 * down e) h))))
too_large (fin true m e) h = absurd (some (m * up e) (down e) (down_pos e) h)
  where
    some : (n d : ℕ) → 0 < d → ltb 0 (n * 1 + 1 * 2147483648 * d) ≡ false → ⊥
    some n d p h = omega (arith, ltb-false 0 (n * 1 + 1 * 2147483648 * d) h)

pub too_small : (t : Float) → le (fin true 1 (pos 31)) t ≡ false → Fault (answer range) ≡ whole_of t
unfolding whole_of entier le lt eq
too_small nan h = refl
too_small (inf s) h = refl
too_small (fin true m e) h = sym (whole_none _ (down_past (m * up e) (down e) (down_pos e) (omega (arith, or_gt (1 * 2147483648 * down e) (m * up e * 1) h))))
too_small (fin false m e) h = absurd (some (m * up e) (down e) (down_pos e) (left _ _ h))
  where
    left : (a b : Bool) → (a || b) ≡ false → a ≡ false
    left true b h = h
    left false b h = refl

    some : (n d : ℕ) → 0 < d → ltb 0 (1 * 2147483648 * d + n * 1) ≡ false → ⊥
    some n d p h = omega (arith, ltb-false 0 (1 * 2147483648 * d + n * 1) h)

-- ---- numbers of 64 bits

pub sized : (u : ℕ) → u ≤ 2147483648 → to_z w64 u ≡ pos u
sized u h = to_z_pos w64 (omega arith)

pub less_one : (u : ℕ) → negsuc 0 -ℤ pos u ≡ negsuc u
less_one zero = refl
less_one (suc u) = ap (λ (n : ℕ). negsuc (suc n)) (omega arith)

pub from_none : (u : ℕ) → pos 0 -ℤ pos u ≡ neg_ℤ (pos u)
from_none zero = refl
from_none (suc u) = +ℤ_idl (negsuc u)

pub neg_sized : (u : ℕ) → u ≤ 2147483648 → SFits w64 (neg_ℤ (pos u))
neg_sized u h = record { sfits = rw (neg_mag u) (omega arith) }

-- ---- what a mathematician asks of entier, for every finite x = ± n / d (n = m * up e, d = down e > 0)

-- x = n / d: entier x is a whole number q with q ≤ n / d < q + 1
pub entier_over : (m : ℕ) (e : ℤ) → (entier (fin false m e) ≡ pos (m * up e / down e)) × (m * up e / down e * down e ≤ m * up e) × (m * up e < m * up e / down e * down e + down e)
unfolding entier
entier_over m e = (refl, floor_low (m * up e) (down e), floor_high (m * up e) (down e) (down_pos e))

-- x = − n / d: entier x is −u with −u ≤ − n / d < −u + 1, that is n ≤ u * d < n + d
pub record Under (z : ℤ) (n d : ℕ) : Type 0 where
  pub u : ℕ
  pub is : z ≡ neg_ℤ (pos u)
  pub low : n ≤ u * d
  pub high : u * d < n + d

down_under : (n d : ℕ) → 0 < d → Under (downward n d) n d
down_under n d p = go (eqb (n % d) 0) refl
  where
    go : (t : Bool) → eqb (n % d) 0 ≡ t → Under (cond t (neg_ℤ (pos (n / d))) (negsuc (n / d))) n d
    go true e = record { u = n / d; is = refl; low = omega (arith, div-add-mod' n d, eqb-true (n % d) 0 e); high = omega (arith, div-add-mod' n d) }
    go false e =
        let k : suc (n / d) * d ≡ n / d * d + d = suc-mul (n / d) d in
        let f = eqb-false (n % d) 0 e in
        record { u = suc (n / d); is = refl; low = omega (arith, k, div-add-mod' n d, mod-lt n p); high = more k f }
      where
        more : suc (n / d) * d ≡ n / d * d + d → (n % d ≡ 0 → ⊥) → suc (n / d) * d < n + d
        more k f = omega (arith, k, f, div-add-mod' n d)

pub entier_under : (m : ℕ) (e : ℤ) → Under (entier (fin true m e)) (m * up e) (down e)
unfolding entier
entier_under m e = down_under (m * up e) (down e) (down_pos e)
