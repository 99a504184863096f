-- One division of two exact numbers is the fraction rounded once (`divided`), and what it gives is finite (`decimal_finite`), since it is at most
-- its numerator.
use Rattle.std.proofs.Common.{◌≡◌, ℕ, zero, suc, ◌+◌, ◌-◌, ◌*◌, ◌/◌, ◌%◌, ◌^◌, ◌<◌, ◌≤◌, Bool, true, false, cond, T, eqb, ltb, pos, sym, refl, ap, ◌∙◌, subst, true≢false, lt_irrefl, mul_assoc, mul_comm, mul-pos, pow-suc, zero-mul, mul-one, mul_left_comm, arith, le→leb, le-ltb, lt-ltb, ne_eqb}
use Prim.Native.Nat.{compare}
use native.Mathlib.Nat.{pow-le-pow_right}
use mathlib.Core.Bool.{false≢true}
use lib.Ieee.{Float, nan, inf, fin, binary64, up, down, round, units, odd, size, nearest, lt, le, eq, div, of_int, in_float, of_bits, to_bits}
use lib.Ieee.Bits.{of_bits-to_bits}
use Rattle.reals.specs.Values.{finite_b, decimal, reading, nought}
use Rattle.reals.specs.model.Stored.{Sized, bits_in}
use Rattle.std.specs.Prelude.{Some}
use Rattle.reals.proofs.Patterns.{real_back}
use lib.Ieee.Fits.{down_pos, round-fits}
use lib.Ieee.Exact.{HasValue}
use lib.Ieee.Back.{round_whole}
use lib.Ieee.Scale.{round_same}
use lib.Ieee.Order.{round_mono}

-- the quotient of two values that are not negative, by the fractions that they equal
quotient : (x y : Float) (a b : ℕ) → HasValue x false a 1 → HasValue y false b 1 → 0 < b → div binary64 x y ≡ round binary64 false a b
unfolding div
quotient nan y a b p q h = absurd p
quotient (inf s) y a b p q h = absurd p
quotient (fin true m e) y a b p q h = absurd (true≢false p.0)
quotient (fin false m e) nan a b p q h = absurd q
quotient (fin false m e) (inf t) a b p q h = absurd q
quotient (fin false m e) (fin true n d) a b p q h = absurd (true≢false q.0)
quotient (fin false m e) (fin false n d) a b p q h =
    let A : m * up e ≡ a * down e = sym (mul-one (m * up e)) ∙ p.1 in
    let B : n * up d ≡ b * down d = sym (mul-one (n * up d)) ∙ q.1 in
    let z : eqb n 0 ≡ false = ne_eqb n 0 (λ (w : n ≡ 0). none n w B) in
    simp z (round_same binary64 false (m * up e * down d) (n * up d * down e) a b (subst (λ (k : ℕ). 0 < k * down e) (sym B) (mul-pos (mul-pos h (down_pos d)) (down_pos e))) h (cross A B))
  where
    none : (n : ℕ) → n ≡ 0 → n * up d ≡ b * down d → ⊥
    none n w B = lt_irrefl 0 (subst (λ (k : ℕ). 0 < k) (sym B ∙ ap (λ (z : ℕ). z * up d) w ∙ zero-mul (up d)) (mul-pos h (down_pos d)))

    cross : m * up e ≡ a * down e → n * up d ≡ b * down d → m * up e * down d * b ≡ a * (n * up d * down e)
    cross A B = rw (A, B) (simp (mul_assoc, mul_comm, mul_left_comm))

-- a whole number of at most 10 ^ 15 is a real exactly
pub exact : (n : ℕ) → n ≤ 1000000000000000 → T (in_float binary64 (pos n))
unfolding in_float
exact n h = le→leb n 9007199254740992 (omega arith)

pub divided : (n p : ℕ) → n ≤ 1000000000000000 → p ≤ 1000000000000000 → 0 < p → div binary64 (of_int binary64 (pos n)) (of_int binary64 (pos p)) ≡ round binary64 false n p
unfolding of_int
divided n p h k l =
    quotient (round binary64 false n 1) (round binary64 false p 1) n p (round_whole binary64 false n (omega arith)) (round_whole binary64 false p (omega arith)) l

-- ten to a power up to 15
pub ten_pos : (k : ℕ) → 0 < 10 ^ k
ten_pos zero = omega arith
ten_pos (suc k) = omega (arith, pow-suc 10 k, ten_pos k)

pub ten_le : (k : ℕ) → k ≤ 15 → 10 ^ k ≤ 1000000000000000
ten_le k h = pow-le-pow_right (omega arith) h

-- ---- finite

-- what is rounded without a sign is no negative infinity
abbrev lowest : Float → Bool
lowest nan = false
lowest (inf s) = s
lowest (fin s m e) = false

odd_not : (d q k l : ℕ) → lowest (odd d false q k l) ≡ false
unfolding odd
odd_not d zero k l = refl
odd_not d (suc q) k l = refl

units_not : (q k : ℕ) → lowest (units binary64 false q k) ≡ false
unfolding units
units_not q k = go (ltb (q * 2 ^ k) (2 ^ 2098))
  where
    go : (b : Bool) → lowest (cond b (odd 54 false q k 1074) (inf false)) ≡ false
    go true = odd_not 54 q k 1074
    go false = refl

not_under : (a b : ℕ) → round binary64 false a b ≡ inf true → ⊥
unfolding round
not_under a b e =
    let n = a * 2 ^ 1074 in
    let k = size (n / b) - 53 in
    let u = b * 2 ^ k in
    false≢true (sym (units_not (nearest (n / u) (compare (n % u * 2) u)) k) ∙ ap lowest e)

bounded : (x y : Float) → T (le x y) → (x ≡ inf true → ⊥) → T (finite_b y) → T (finite_b x)
unfolding le lt eq
bounded nan y l n f = absurd l
bounded (inf true) y l n f = absurd (n refl)
bounded (inf false) nan l n f = absurd f
bounded (inf false) (inf s) l n f = absurd f
bounded (inf false) (fin s m e) l n f = absurd l
bounded (fin s m e) y l n f = tt

pub decimal_finite : (n p : ℕ) → n ≤ 1000000000000000 → 0 < p → T (finite_b (round binary64 false n p))
unfolding round
decimal_finite n p h l =
    bounded (round binary64 false n p) (round binary64 false 1000000000000000 1) (round_mono binary64 n p 1000000000000000 1 l (omega arith) (small n p h l)) (not_under n p) tt
  where
    small : (n p : ℕ) → n ≤ 1000000000000000 → 0 < p → n * 1 ≤ 1000000000000000 * p
    small n p h l = omega arith

-- a number with a point is a real that a cell can hold
pub decimal_fits : (n k : ℕ) → n < 1000000000000000 → Sized (decimal n k)
unfolding decimal
decimal_fits n k h = record { held = round-fits binary64 false n (10 ^ k); finite = decimal_finite n (10 ^ k) (omega arith) (ten_pos k) }

-- what the code of a program has of it is read back as the number
pub back : (n k : ℕ) → of_bits binary64 (to_bits binary64 (decimal n k)) ≡ decimal n k
unfolding decimal
back n k = of_bits-to_bits binary64 (round binary64 false n (10 ^ k)) (round-fits binary64 false n (10 ^ k))

-- the two words of a constant give the number back
pub constant_back : (n k : ℕ) → n < 1000000000000000 → bits_in (to_bits binary64 (decimal n k) / 4294967296 * 4294967296 + to_bits binary64 (decimal n k) % 4294967296) ≡ Some (decimal n k)
constant_back n k h = real_back (decimal n k) (decimal_fits n k h)

-- ---- the reading

module _ (n k : ℕ) where
  pub reading_is : n < 1000000000000000 → k ≤ 15 → reading n k ≡ decimal n k
  unfolding reading
  reading_is h l = simp (lt-ltb n 1000000000000000 h, lt-ltb k 16 (omega arith))

  pub too_long : 1000000000000000 ≤ n → nought ≡ reading n k
  unfolding reading
  too_long h = simp (le-ltb n 1000000000000000 h)

  pub too_fine : n < 1000000000000000 → 15 < k → nought ≡ reading n k
  unfolding reading
  too_fine h l = simp (lt-ltb n 1000000000000000 h, le-ltb k 16 (omega arith))
