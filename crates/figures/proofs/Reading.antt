-- Reading back: a decimal between the numbers half way to a real's neighbours is rounded to that real, and 17 digits always are such a decimal.
-- Assumes nothing.
use mathlib.Core.Path.{◌≡◌, refl, sym, ap, ◌∙◌, subst}
use mathlib.Core.Logic.{◌⊎◌, inl, inr}
use mathlib.Core.Bool.{Bool, true, false, cond, ◌&&◌}
use Prim.Native.Nat.{ℕ, zero, suc, ◌+◌, ◌*◌, ◌-◌, ◌/◌, ◌%◌, ◌^◌, ◌≤◌, ◌<◌, compare}
use native.Mathlib.Nat.{le_trans, le_of_eq, le_of_lt, lt_of_lt_of_le, lt_irrefl, lt_of_not-le, not-le_of_lt, add-mul, suc-mul, mul_assoc, mul_comm, mul_right_comm, mul-mul-mul_comm, mul-le-mul_left, mul-le-mul_right, mul-lt-mul_of_pos_right, mul-pos, pow-suc, pow-succ', div-lt_iff_lt-mul, le-div_iff_mul-le, eq_of_mul-eq-mul_right, one-mul, mod-lt, div-add-mod'}
use native.Mathlib.Omega.{arith}
use lib.Arith.{digits_div, digits_mod}
use lib.IntN.{ℤ}
use lib.Pow.{pow-add, pow_pos, pow_mono}
use lib.Dec.{T, leb, ltb, eqb, lit≤}
use lib.Ieee.{Float, nan, inf, fin, binary64, up, down, top, hid, size, nearest, odd, units, round, fits, to_bits, of_bits}
use lib.Ieee.Fits.{round_is, round-fits, odd-fits, down_pos, nearest-le}
use lib.Ieee.Digits.{size-le, size-lt, size_reaches}
use lib.Ieee.Exact.{HasValue, odd_sign, units_val}
use lib.Ieee.Nearest.{closest, div_same, nearest-ge}
use lib.Ieee.Bits.{of_bits-to_bits}
use borrow.Author.Tests.{le-leb, lt-ltb, leb-true, leb-false, ltb-true, ltb-false, eqb-true, eqb-false}
use Rattle.figures.specs.Fewest.{scaled, lowest, beyond, between}
use Rattle.figures.proofs.Spelling.{ten_pos}
use Rattle.figures.proofs.Rounding.{compare_lt, compare_eq, compare_gt}

-- ---- two reals of one value are the same

abbrev bits_of : Bool → ℕ → ℕ
bits_of s n = cond s (top binary64) 0 + (size n - 53) * hid binary64 + n / 2 ^ (size n - 53)

bits_fin : (s : Bool) (m : ℕ) (e : ℤ) → to_bits binary64 (fin s m e) ≡ bits_of s (m * up e * 2 ^ 1074 / down e)
unfolding to_bits
bits_fin s m e = refl

value_bits : (x : Float) (s : Bool) (a c : ℕ) → 0 < c → HasValue x s a c → to_bits binary64 x ≡ bits_of s (a * 2 ^ 1074 / c)
value_bits nan s a c p h = absurd h
value_bits (inf t) s a c p h = absurd h
value_bits (fin t m e) s a c p h =
    bits_fin t m e ∙ ap (λ (b : Bool). bits_of b (m * up e * 2 ^ 1074 / down e)) h.0
    ∙ ap (bits_of s) (div_same (m * up e * 2 ^ 1074) (down e) (a * 2 ^ 1074) c (down_pos e) p (mul_right_comm (m * up e) (2 ^ 1074) c ∙ ap (λ (z : ℕ). z * 2 ^ 1074) h.1 ∙ mul_right_comm a (down e) (2 ^ 1074)))

unique : (x y : Float) (s : Bool) (a c : ℕ) → 0 < c → T (fits binary64 x) → T (fits binary64 y) → HasValue x s a c → HasValue y s a c → x ≡ y
unique x y s a c p f g v w = sym (of_bits-to_bits binary64 x f) ∙ ap (of_bits binary64) (value_bits x s a c p v ∙ sym (value_bits y s a c p w)) ∙ of_bits-to_bits binary64 y g

-- ---- to the nearest whole number q: a / b is at most a half away from it, and less where q is odd

parts : (a b q r : ℕ) → r < b → a ≡ q * b + r → closest a b ≡ nearest q (compare (r * 2) b)
parts a b q r h e =
    ap (λ (x : ℕ). nearest x (compare (a % b * 2) b)) (ap (λ (x : ℕ). x / b) e ∙ digits_div q h)
    ∙ ap (λ (x : ℕ). nearest q (compare (x * 2) b)) (ap (λ (x : ℕ). x % b) e ∙ digits_mod q h)

abbrev Strict : ℕ → ℕ → ℕ → Type 0
Strict a b q = (q % 2 ≡ 0) ⊎ ((q * b * 2 < a * 2 + b) × (a * 2 < q * b * 2 + b))

from_above : (a b q : ℕ) → 0 < b → q * b ≤ a → a * 2 ≤ q * b * 2 + b → Strict a b q → closest a b ≡ q
from_above a b q p h k t = go (ltb ((a - q * b) * 2) b) refl t
  where
    e : a ≡ q * b + (a - q * b)
    e = omega arith

    small : (a - q * b) < b
    small = omega arith

    go : (c : Bool) → ltb ((a - q * b) * 2) b ≡ c → Strict a b q → closest a b ≡ q
    go true l t = parts a b q (a - q * b) small e ∙ ap (nearest q) (compare_lt ((a - q * b) * 2) b (ltb-true ((a - q * b) * 2) b l))
    go false l (inl z) =
        let n = ltb-false ((a - q * b) * 2) b l in
        parts a b q (a - q * b) small e ∙ ap (nearest q) (compare_eq ((a - q * b) * 2) b (omega arith)) ∙ omega arith
    go false l (inr z) =
        let n = ltb-false ((a - q * b) * 2) b l in
        absurd (lt_irrefl 0 (omega (arith, z.1)))

from_below : (a b q : ℕ) → a < suc q * b → suc q * b * 2 ≤ a * 2 + b → Strict a b (suc q) → closest a b ≡ suc q
from_below a b q h k t = go (ltb b ((a - q * b) * 2)) refl t
  where
    w : suc q * b ≡ q * b + b
    w = suc-mul q b

    e : a ≡ q * b + (a - q * b)
    e = omega (arith, w)

    small : (a - q * b) < b
    small = omega (arith, w)

    half : b ≤ (a - q * b) * 2
    half = omega (arith, w)

    go : (c : Bool) → ltb b ((a - q * b) * 2) ≡ c → Strict a b (suc q) → closest a b ≡ suc q
    go true l t = parts a b q (a - q * b) small e ∙ ap (nearest q) (compare_gt ((a - q * b) * 2) b (ltb-true b ((a - q * b) * 2) l))
    go false l (inl z) =
        let n = ltb-false b ((a - q * b) * 2) l in
        parts a b q (a - q * b) small e ∙ ap (nearest q) (compare_eq ((a - q * b) * 2) b (omega (arith, half))) ∙ omega arith
    go false l (inr z) =
        let n = ltb-false b ((a - q * b) * 2) l in
        absurd (lt_irrefl 0 (omega (arith, z.0, half, w)))

closest_is : (a b q : ℕ) → 0 < b → q * b * 2 ≤ a * 2 + b → a * 2 ≤ q * b * 2 + b → Strict a b q → closest a b ≡ q
closest_is a b q p h k t = go (leb (q * b) a) refl
  where
    under : (q : ℕ) → leb (q * b) a ≡ false → q * b * 2 ≤ a * 2 + b → Strict a b q → closest a b ≡ q
    under zero e h t = absurd (lt_irrefl 0 (omega (arith, leb-false (0 * b) a e)))
    under (suc q) e h t = from_below a b q (leb-false (suc q * b) a e) h t

    go : (c : Bool) → leb (q * b) a ≡ c → closest a b ≡ q
    go true e = from_above a b q p (leb-true (q * b) a e) k t
    go false e = under q e h t

-- and the nearest one is so
module _ (a b : ℕ) (p : 0 < b) where
  abbrev Near : ℕ → Type 0
  Near q = (q * b * 2 ≤ a * 2 + b) × (a * 2 ≤ q * b * 2 + b) × Strict a b q

  pub closest_near : Near (closest a b)
  closest_near = go (ltb (a % b * 2) b) refl (ltb b (a % b * 2)) refl
    where
      whole : a / b * b + a % b ≡ a
      whole = div-add-mod' a b

      rest : a % b < b
      rest = mod-lt a p

      more : suc (a / b) * b ≡ a / b * b + b
      more = suc-mul (a / b) b

      even : (a / b + a / b % 2) * b ≡ a / b * b + a / b % 2 * b
      even = add-mul (a / b) (a / b % 2) b

      odd_one : a / b % 2 * b ≤ b
      odd_one =
          let z : a / b % 2 ≤ 1 = omega arith in
          le_trans (mul-le-mul_right b z) (le_of_eq (one-mul b))

      twice : (q : ℕ) → (q + q % 2) % 2 ≡ 0
      twice q = omega arith

      go : (c : Bool) → ltb (a % b * 2) b ≡ c → (d : Bool) → ltb b (a % b * 2) ≡ d → Near (nearest (a / b) (compare (a % b * 2) b))
      go true e d f =
          let l = ltb-true (a % b * 2) b e in
          rw (compare_lt (a % b * 2) b l) (omega (arith, whole), omega (arith, whole), inr (omega (arith, whole), omega (arith, whole)))
      go false e true f =
          let l = ltb-true b (a % b * 2) f in
          rw (compare_gt (a % b * 2) b l) (omega (arith, whole, more), omega (arith, whole, rest, more), inr (omega (arith, whole, more), omega (arith, whole, rest, more)))
      go false e false f =
          let l = ltb-false b (a % b * 2) f in
          let h = ltb-false (a % b * 2) b e in
          rw (compare_eq (a % b * 2) b (omega arith)) (omega (arith, whole, even, odd_one), omega (arith, whole, even), inl (twice (a / b)))

-- ---- how many binary digits are dropped

size_ge : (n j : ℕ) → 2 ^ j ≤ n → j < size n
size_ge n j h = lt_of_not-le (λ (g : size n ≤ j). not-le_of_lt (lt_of_lt_of_le (size-lt n) (pow_mono g)) h)

module _ (n d : ℕ) (P : 0 < d) where
  weight : (a k : ℕ) → 2 ^ (a + k) * d ≡ 2 ^ a * (d * 2 ^ k)
  weight a k = ap (λ (x : ℕ). x * d) (pow-add 2 a k) ∙ mul_assoc (2 ^ a) (2 ^ k) d ∙ ap (λ (x : ℕ). 2 ^ a * x) (mul_comm (2 ^ k) d)

  dropped : (k : ℕ) → 2 ^ 52 * (d * 2 ^ k) ≤ n → n < 2 ^ 53 * (d * 2 ^ k) → size (n / d) - 53 ≡ k
  dropped k h l = last (size (n / d)) (size_ge (n / d) (52 + k) ((le-div_iff_mul-le P).1 (subst (λ (x : ℕ). x ≤ n) (sym (weight 52 k)) h))) (size-le (n / d) (53 + k) ((div-lt_iff_lt-mul P).1 (subst (λ (x : ℕ). n < x) (sym (weight 53 k)) l)))
    where
      last : (z : ℕ) → 52 + k < z → z ≤ 53 + k → z - 53 ≡ k
      last z a b = omega arith

  none_dropped : n < 2 ^ 53 * (d * 2 ^ 0) → size (n / d) - 53 ≡ 0
  none_dropped l = last (size (n / d)) (size-le (n / d) (53 + 0) ((div-lt_iff_lt-mul P).1 (subst (λ (x : ℕ). n < x) (sym (weight 53 0)) l)))
    where
      last : (z : ℕ) → z ≤ 53 → z - 53 ≡ 0
      last z a = omega arith

  rounded_at : (k q : ℕ) → size (n / d) - 53 ≡ k → closest n (d * 2 ^ k) ≡ q → closest n (d * 2 ^ (size (n / d) - 53)) * 2 ^ (size (n / d) - 53) ≡ q * 2 ^ k
  rounded_at k q e f = ap (λ (z : ℕ). closest n (d * 2 ^ z) * 2 ^ z) e ∙ ap (λ (z : ℕ). z * 2 ^ k) f

-- n / d lies by half a unit u = d · 2 ^ k about m units
module _ (m n d : ℕ) (P : 0 < d) (few : m < 2 ^ 53) where
  room : (u : ℕ) → 0 < u → n * 2 ≤ m * u * 2 + u → n < 2 ^ 53 * u
  room u p h =
      let a : m * u + u ≤ 2 ^ 53 * u = le_trans (le_of_eq (sym (suc-mul m u))) (mul-le-mul_right u few) in
      omega arith

  least_place : m * (d * 2 ^ 0) * 2 ≤ n * 2 + d * 2 ^ 0 → n * 2 ≤ m * (d * 2 ^ 0) * 2 + d * 2 ^ 0 → Strict n (d * 2 ^ 0) m → closest n (d * 2 ^ (size (n / d) - 53)) * 2 ^ (size (n / d) - 53) ≡ m * 2 ^ 0
  least_place h l t =
      let u : 0 < d * 2 ^ 0 = mul-pos P (pow_pos 0) in
      rounded_at n d P 0 m (none_dropped n d P (room (d * 2 ^ 0) u l)) (closest_is n (d * 2 ^ 0) m u h l t)

  same_place : (k : ℕ) → 2 ^ 52 * (d * 2 ^ k) ≤ n → m * (d * 2 ^ k) * 2 ≤ n * 2 + d * 2 ^ k → n * 2 ≤ m * (d * 2 ^ k) * 2 + d * 2 ^ k → Strict n (d * 2 ^ k) m
      → closest n (d * 2 ^ (size (n / d) - 53)) * 2 ^ (size (n / d) - 53) ≡ m * 2 ^ k
  same_place k g h l t =
      let u : 0 < d * 2 ^ k = mul-pos P (pow_pos k) in
      rounded_at n d P k m (dropped n d P k g (room (d * 2 ^ k) u l)) (closest_is n (d * 2 ^ k) m u h l t)

  -- below a power of two the units are half as large
  half_place : (k : ℕ) → m ≡ 2 ^ 52 → n < m * (d * 2 ^ suc k) → m * (d * 2 ^ suc k) * 4 ≤ n * 4 + d * 2 ^ suc k
      → closest n (d * 2 ^ (size (n / d) - 53)) * 2 ^ (size (n / d) - 53) ≡ m * 2 ^ suc k
  half_place k e h l =
      let v = d * 2 ^ k in
      let p : 0 < d * 2 ^ k = mul-pos P (pow_pos k) in
      let a : d * 2 ^ suc k ≡ d * 2 ^ k * 2 = ap (λ (x : ℕ). d * x) (pow-suc 2 k) ∙ sym (mul_assoc d (2 ^ k) 2) in
      let b : m * (d * 2 ^ suc k) ≡ 2 ^ 53 * (d * 2 ^ k) = ap (λ (x : ℕ). x * (d * 2 ^ suc k)) e ∙ ap (λ (x : ℕ). 2 ^ 52 * x) (a ∙ mul_comm (d * 2 ^ k) 2) ∙ sym (mul_assoc (2 ^ 52) 2 (d * 2 ^ k)) in
      let q : closest n (d * 2 ^ k) ≡ 2 ^ 53 = closest_is n (d * 2 ^ k) (2 ^ 53) p (omega arith) (omega arith) (inl refl) in
      rounded_at n d P k (2 ^ 53) (dropped n d P k (omega arith) (omega arith)) q
      ∙ sym (ap (λ (x : ℕ). x * 2 ^ suc k) e ∙ ap (λ (x : ℕ). 2 ^ 52 * x) (pow-succ' 2 k) ∙ sym (mul_assoc (2 ^ 52) 2 (2 ^ k)))

  at_place : (k : ℕ) → (2 ^ 52 ≤ m) ⊎ (k ≡ 0) → ((m ≡ 2 ^ 52 → k ≡ 0) ⊎ (m * (d * 2 ^ k) * 4 ≤ n * 4 + d * 2 ^ k))
      → m * (d * 2 ^ k) * 2 ≤ n * 2 + d * 2 ^ k → n * 2 ≤ m * (d * 2 ^ k) * 2 + d * 2 ^ k → Strict n (d * 2 ^ k) m
      → closest n (d * 2 ^ (size (n / d) - 53)) * 2 ^ (size (n / d) - 53) ≡ m * 2 ^ k
  at_place zero f w h l t = least_place h l t
  at_place (suc k) (inr e) w h l t = absurd (lt_irrefl 0 (omega arith))
  at_place (suc k) (inl f) w h l t = go (leb (m * (d * 2 ^ suc k)) n) refl (eqb m (2 ^ 52)) refl w
    where
      full : 2 ^ 52 * (d * 2 ^ suc k) ≤ m * (d * 2 ^ suc k)
      full = mul-le-mul_right (d * 2 ^ suc k) f

      more : (m ≡ 2 ^ 52 → ⊥) → 2 ^ 52 * (d * 2 ^ suc k) ≤ n
      more g =
          let x : suc (2 ^ 52) ≤ m = omega (arith, f, g) in
          let a : 2 ^ 52 * (d * 2 ^ suc k) + d * 2 ^ suc k ≤ m * (d * 2 ^ suc k) = le_trans (le_of_eq (sym (suc-mul (2 ^ 52) (d * 2 ^ suc k)))) (mul-le-mul_right (d * 2 ^ suc k) x) in
          omega (arith, a, h)

      zero_is : suc k ≡ 0 → 0 < 0
      zero_is z = omega arith

      go : (b : Bool) → leb (m * (d * 2 ^ suc k)) n ≡ b → (c : Bool) → eqb m (2 ^ 52) ≡ c → ((m ≡ 2 ^ 52 → suc k ≡ 0) ⊎ (m * (d * 2 ^ suc k) * 4 ≤ n * 4 + d * 2 ^ suc k))
          → closest n (d * 2 ^ (size (n / d) - 53)) * 2 ^ (size (n / d) - 53) ≡ m * 2 ^ suc k
      go true e c g w = same_place (suc k) (le_trans full (leb-true (m * (d * 2 ^ suc k)) n e)) h l t
      go false e false g w = same_place (suc k) (more (eqb-false m (2 ^ 52) g)) h l t
      go false e true g (inl w) = absurd (lt_irrefl 0 (zero_is (w (eqb-true m (2 ^ 52) g))))
      go false e true g (inr w) = half_place k (eqb-true m (2 ^ 52) g) (leb-false (m * (d * 2 ^ suc k)) n e) w

-- ---- the decimal in units of the least real

ten_split : (j : ℕ) → 10 ^ j ≡ 2 ^ j * 5 ^ j
ten_split zero = refl
ten_split (suc j) =
    pow-suc 10 j ∙ ap (λ (x : ℕ). x * 10) (ten_split j) ∙ mul-mul-mul_comm (2 ^ j) (5 ^ j) 2 5
    ∙ sym (ap (λ (x : ℕ). x * 5 ^ suc j) (pow-suc 2 j) ∙ ap (λ (x : ℕ). 2 ^ j * 2 * x) (pow-suc 5 j))

key : (y c : ℕ) → scaled y c * 2 ^ 1080 ≡ c * 2 ^ y * 10 ^ (1080 - y)
unfolding scaled
key y c =
    let j = 1080 - y in
    let e : y - 1080 + 1080 ≡ y + (1080 - y) = omega arith in
    let a : 2 ^ (y - 1080) * 2 ^ 1080 ≡ 2 ^ y * 2 ^ j = sym (pow-add 2 (y - 1080) 1080) ∙ ap (λ (x : ℕ). 2 ^ x) e ∙ pow-add 2 y j in
    mul_right_comm (c * 2 ^ (y - 1080)) (5 ^ j) (2 ^ 1080) ∙ ap (λ (x : ℕ). x * 5 ^ j) (mul_assoc c (2 ^ (y - 1080)) (2 ^ 1080) ∙ ap (λ (x : ℕ). c * x) a ∙ sym (mul_assoc c (2 ^ y) (2 ^ j)))
    ∙ mul_assoc (c * 2 ^ y) (2 ^ j) (5 ^ j) ∙ ap (λ (x : ℕ). c * 2 ^ y * x) (sym (ten_split j))

-- c 32nds of the last place, with y = k + 1
key_units : (k c : ℕ) → scaled (suc k) c * 2 ^ 1080 ≡ c * (10 ^ (1080 - suc k) * 2 ^ k) * 2
key_units k c =
    let d = 10 ^ (1080 - suc k) in
    key (suc k) c ∙ ap (λ (x : ℕ). c * x * d) (pow-suc 2 k) ∙ ap (λ (x : ℕ). x * d) (sym (mul_assoc c (2 ^ k) 2)) ∙ mul_right_comm (c * 2 ^ k) 2 d
    ∙ ap (λ (x : ℕ). x * 2) (mul_assoc c (2 ^ k) d ∙ ap (λ (x : ℕ). c * x) (mul_comm (2 ^ k) d))

parts_of : (x : ℕ) → x * 2 ^ 1080 ≡ x * 2 ^ 1074 * 64
parts_of x = sym (mul_assoc x (2 ^ 1074) 64)

halve_le : (a n : ℕ) → a * 2 ≤ n * 64 → a ≤ n * 32
halve_le a n h = omega arith

halve_lt : (a n : ℕ) → a * 2 < n * 64 → a < n * 32
halve_lt a n h = omega arith

halve_ge : (a n : ℕ) → n * 64 ≤ a * 2 → n * 32 ≤ a
halve_ge a n h = omega arith

halve_gt : (a n : ℕ) → n * 64 < a * 2 → n * 32 < a
halve_gt a n h = omega arith

module _ (k c x : ℕ) where
  pub low_le : scaled (suc k) c ≤ x → c * (10 ^ (1080 - suc k) * 2 ^ k) ≤ x * 2 ^ 1074 * 32
  low_le h = halve_le (c * (10 ^ (1080 - suc k) * 2 ^ k)) (x * 2 ^ 1074) (subst (λ (z : ℕ). z ≤ x * 2 ^ 1074 * 64) (key_units k c) (subst (λ (z : ℕ). scaled (suc k) c * 2 ^ 1080 ≤ z) (parts_of x) (mul-le-mul_right (2 ^ 1080) h)))

  pub low_lt : scaled (suc k) c < x → c * (10 ^ (1080 - suc k) * 2 ^ k) < x * 2 ^ 1074 * 32
  low_lt h = halve_lt (c * (10 ^ (1080 - suc k) * 2 ^ k)) (x * 2 ^ 1074) (subst (λ (z : ℕ). z < x * 2 ^ 1074 * 64) (key_units k c) (subst (λ (z : ℕ). scaled (suc k) c * 2 ^ 1080 < z) (parts_of x) (mul-lt-mul_of_pos_right h (pow_pos 1080))))

  pub high_le : x ≤ scaled (suc k) c → x * 2 ^ 1074 * 32 ≤ c * (10 ^ (1080 - suc k) * 2 ^ k)
  high_le h = halve_ge (c * (10 ^ (1080 - suc k) * 2 ^ k)) (x * 2 ^ 1074) (subst (λ (z : ℕ). x * 2 ^ 1074 * 64 ≤ z) (key_units k c) (subst (λ (z : ℕ). z ≤ scaled (suc k) c * 2 ^ 1080) (parts_of x) (mul-le-mul_right (2 ^ 1080) h)))

  pub high_lt : x < scaled (suc k) c → x * 2 ^ 1074 * 32 < c * (10 ^ (1080 - suc k) * 2 ^ k)
  high_lt h = halve_gt (c * (10 ^ (1080 - suc k) * 2 ^ k)) (x * 2 ^ 1074) (subst (λ (z : ℕ). x * 2 ^ 1074 * 64 < z) (key_units k c) (subst (λ (z : ℕ). z < scaled (suc k) c * 2 ^ 1080) (parts_of x) (mul-lt-mul_of_pos_right h (pow_pos 1080))))

-- ---- half a place either way

module _ (m under n u : ℕ) (some : 0 < m) (close : under ≤ 16) where
  whole : 32 * m - under + under ≡ 32 * m
  whole = omega arith

  lower : (32 * m - under) * u + under * u ≡ 32 * (m * u)
  lower = sym (add-mul (32 * m - under) under u) ∙ ap (λ (z : ℕ). z * u) whole ∙ mul_assoc 32 m u

  upper : (32 * m + 16) * u ≡ 32 * (m * u) + 16 * u
  upper = add-mul (32 * m) 16 u ∙ ap (λ (z : ℕ). z + 16 * u) (mul_assoc 32 m u)

  lower_le : (32 * m - under) * u ≤ n * 32 → m * u * 2 ≤ n * 2 + u
  lower_le h = omega (arith, lower, mul-le-mul_right u close)

  lower_lt : (32 * m - under) * u < n * 32 → m * u * 2 < n * 2 + u
  lower_lt h = omega (arith, lower, mul-le-mul_right u close)

  upper_le : n * 32 ≤ (32 * m + 16) * u → n * 2 ≤ m * u * 2 + u
  upper_le h = omega (arith, upper)

  upper_lt : n * 32 < (32 * m + 16) * u → n * 2 < m * u * 2 + u
  upper_lt h = omega (arith, upper)

  lower_from : under ≡ 16 → m * u * 2 ≤ n * 2 + u → (32 * m - under) * u ≤ n * 32
  lower_from e h = omega (arith, lower, ap (λ (z : ℕ). z * u) e)

  lower_from_lt : under ≡ 16 → m * u * 2 < n * 2 + u → (32 * m - under) * u < n * 32
  lower_from_lt e h = omega (arith, lower, ap (λ (z : ℕ). z * u) e)

  quarter_from : under ≡ 8 → m * u * 4 ≤ n * 4 + u → (32 * m - under) * u ≤ n * 32
  quarter_from e h = omega (arith, lower, ap (λ (z : ℕ). z * u) e)

  upper_from : n * 2 ≤ m * u * 2 + u → n * 32 ≤ (32 * m + 16) * u
  upper_from h = omega (arith, upper)

  upper_from_lt : n * 2 < m * u * 2 + u → n * 32 < (32 * m + 16) * u
  upper_from_lt h = omega (arith, upper)

  quarter : under ≡ 8 → (32 * m - under) * u ≤ n * 32 → m * u * 4 ≤ n * 4 + u
  quarter e h = omega (arith, lower, ap (λ (z : ℕ). z * u) e)

-- ---- the ends

both_true : (a b : Bool) → a && b ≡ true → (a ≡ true) × (b ≡ true)
both_true true b e = (refl, e)
both_true false b e = (e, cc)

module _ (m under y x : ℕ) where
  abbrev Inside : Type 0
  Inside = (scaled y (32 * m - under) + m % 2 ≤ x) × (x < scaled y (32 * m + 16) + (1 - m % 2))

  inside : between (lowest m under y) (beyond m y) x ≡ true → Inside
  unfolding between lowest beyond
  inside e =
      let p = both_true (leb (scaled y (32 * m - under) + m % 2) x) (ltb x (scaled y (32 * m + 16) + (1 - m % 2))) e in
      (leb-true (scaled y (32 * m - under) + m % 2) x p.0, ltb-true x (scaled y (32 * m + 16) + (1 - m % 2)) p.1)

  pub from_inside : Inside → between (lowest m under y) (beyond m y) x ≡ true
  unfolding between lowest beyond
  from_inside i = rw (le-leb (scaled y (32 * m - under) + m % 2) x i.0, lt-ltb x (scaled y (32 * m + 16) + (1 - m % 2)) i.1)

  wide : Inside → (scaled y (32 * m - under) ≤ x) × (x ≤ scaled y (32 * m + 16))
  wide i = (omega (arith, i.0), omega (arith, i.1))

  strictly : Inside → m % 2 ≡ 1 → (scaled y (32 * m - under) < x) × (x < scaled y (32 * m + 16))
  strictly i e = (omega (arith, i.0), omega (arith, i.1))

-- ---- the real that a decimal is read as

round_closest : (s : Bool) (x d : ℕ) → round binary64 s x d ≡ units binary64 s (closest (x * 2 ^ 1074) (d * 2 ^ (size (x * 2 ^ 1074 / d) - 53))) (size (x * 2 ^ 1074 / d) - 53)
round_closest s x d = round_is binary64 s x d

module _ (s : Bool) (m under k x : ℕ) (some : 0 < m) (few : m < 2 ^ 53) (deep : k ≤ 2045) (normal : (2 ^ 52 ≤ m) ⊎ (k ≡ 0)) (close : under ≤ 16) (lower-neighbour : (m ≡ 2 ^ 52 → k ≡ 0) ⊎ (under ≡ 8)) where
  finite : m * 2 ^ k < 2 ^ 2098
  finite = lt_of_lt_of_le (mul-lt-mul_of_pos_right few (pow_pos k)) (le_trans (mul-le-mul_left (2 ^ 53) (pow_mono deep)) (lit≤ tt))

  value_of : closest (x * 2 ^ 1074) (10 ^ (1080 - suc k) * 2 ^ (size (x * 2 ^ 1074 / 10 ^ (1080 - suc k)) - 53)) * 2 ^ (size (x * 2 ^ 1074 / 10 ^ (1080 - suc k)) - 53) ≡ m * 2 ^ k
      → round binary64 s x (10 ^ (1080 - suc k)) ≡ odd 53 s m k 1074
  value_of e =
      let d = 10 ^ (1080 - suc k) in
      let z = size (x * 2 ^ 1074 / d) - 53 in
      let q = closest (x * 2 ^ 1074) (d * 2 ^ z) in
      unique (round binary64 s x d) (odd 53 s m k 1074) s (m * 2 ^ k) (2 ^ 1074) (pow_pos 1074) (round-fits binary64 s x d) (odd-fits binary64 53 s m k few (le_of_lt few) finite)
      (subst (λ (r : Float). HasValue r s (m * 2 ^ k) (2 ^ 1074)) (sym (round_closest s x d))
      (subst (λ (a : ℕ). HasValue (units binary64 s q z) s a (2 ^ 1074)) e (units_val binary64 s q z (subst (λ (a : ℕ). a < 2 ^ 2098) (sym e) finite))))
      (odd_sign 53 s m k 1074)

  -- between the numbers half way to its neighbours a decimal is read as the real
  pub reads_back : between (lowest m under (suc k)) (beyond m (suc k)) x ≡ true → round binary64 s x (10 ^ (1080 - suc k)) ≡ odd 53 s m k 1074
  reads_back e =
      let d = 10 ^ (1080 - suc k) in
      let u = d * 2 ^ k in
      let n = x * 2 ^ 1074 in
      let i = wide m under (suc k) x (inside m under (suc k) x e) in
      let l = low_le k (32 * m - under) x i.0 in
      let h = high_le k (32 * m + 16) x i.1 in
      value_of (at_place m n d (ten_pos (1080 - suc k)) few k normal (neighbour lower-neighbour l) (lower_le m under n u some close l) (upper_le m under n u some close h) (tie (eqb (m % 2) 0) refl))
    where
      neighbour : (m ≡ 2 ^ 52 → k ≡ 0) ⊎ (under ≡ 8) → (32 * m - under) * (10 ^ (1080 - suc k) * 2 ^ k) ≤ x * 2 ^ 1074 * 32
          → (m ≡ 2 ^ 52 → k ≡ 0) ⊎ (m * (10 ^ (1080 - suc k) * 2 ^ k) * 4 ≤ x * 2 ^ 1074 * 4 + 10 ^ (1080 - suc k) * 2 ^ k)
      neighbour (inl f) l = inl f
      neighbour (inr f) l = inr (quarter m under (x * 2 ^ 1074) (10 ^ (1080 - suc k) * 2 ^ k) some close f l)

      odd_one : (m % 2 ≡ 0 → ⊥) → m % 2 ≡ 1
      odd_one f = omega (arith, f)

      tie : (b : Bool) → eqb (m % 2) 0 ≡ b → Strict (x * 2 ^ 1074) (10 ^ (1080 - suc k) * 2 ^ k) m
      tie true f = inl (eqb-true (m % 2) 0 f)
      tie false f =
          let i = strictly m under (suc k) x (inside m under (suc k) x e) (odd_one (eqb-false (m % 2) 0 f)) in
          inr (lower_lt m under (x * 2 ^ 1074) (10 ^ (1080 - suc k) * 2 ^ k) some close (low_lt k (32 * m - under) x i.0), upper_lt m under (x * 2 ^ 1074) (10 ^ (1080 - suc k) * 2 ^ k) some close (high_lt k (32 * m + 16) x i.1))

-- ---- and only such a decimal is

-- how far the lower neighbour is
abbrev pub Lower : ℕ → ℕ → ℕ → Type 0
Lower m under k = ((under ≡ 16) × (m ≡ 2 ^ 52 → k ≡ 0)) ⊎ ((under ≡ 8) × (m ≡ 2 ^ 52) × (0 < k))

same_value : (x : Float) (s : Bool) (a b c : ℕ) → HasValue x s a c → HasValue x s b c → a ≡ b
same_value nan s a b c h k = absurd h
same_value (inf t) s a b c h k = absurd h
same_value (fin t m e) s a b c h k = eq_of_mul-eq-mul_right (down e) (down_pos e) a b (sym h.1 ∙ k.1)

units_none : (s : Bool) (q z : ℕ) → ltb (q * 2 ^ z) (2 ^ 2098) ≡ false → units binary64 s q z ≡ inf s
unfolding units
units_none s q z f = ap (λ (b : Bool). cond b (odd 54 s q z 1074) (inf s)) f

units_same : (s : Bool) (q z m k : ℕ) → units binary64 s q z ≡ odd 53 s m k 1074 → q * 2 ^ z ≡ m * 2 ^ k
units_same s q z m k e = go (ltb (q * 2 ^ z) (2 ^ 2098)) refl
  where
    value : HasValue (units binary64 s q z) s (m * 2 ^ k) (2 ^ 1074)
    value = subst (λ (r : Float). HasValue r s (m * 2 ^ k) (2 ^ 1074)) (sym e) (odd_sign 53 s m k 1074)

    go : (b : Bool) → ltb (q * 2 ^ z) (2 ^ 2098) ≡ b → q * 2 ^ z ≡ m * 2 ^ k
    go true f = same_value (units binary64 s q z) s (q * 2 ^ z) (m * 2 ^ k) (2 ^ 1074) (units_val binary64 s q z (ltb-true (q * 2 ^ z) (2 ^ 2098) f)) value
    go false f = absurd (subst (λ (r : Float). HasValue r s (m * 2 ^ k) (2 ^ 1074)) (units_none s q z f) value)

-- z binary digits are dropped, and q are left
module _ (n d : ℕ) (P : 0 < d) where
  abbrev z : ℕ
  z = size (n / d) - 53

  abbrev q : ℕ
  q = closest n (d * 2 ^ (size (n / d) - 53))

  below_all : n < 2 ^ 53 * (d * 2 ^ z)
  below_all =
      let a : size (n / d) ≤ 53 + (size (n / d) - 53) = omega arith in
      subst (λ (x : ℕ). n < x) (weight n d P 53 z) ((div-lt_iff_lt-mul P).0 (lt_of_lt_of_le (size-lt (n / d)) (pow_mono a)))

  from_half : 0 < z → 2 ^ 52 * (d * 2 ^ z) ≤ n
  from_half h =
      let a : 52 + (size (n / d) - 53) < size (n / d) = omega arith in
      subst (λ (x : ℕ). x ≤ n) (weight n d P 52 z) ((le-div_iff_mul-le P).0 (size_reaches (n / d) (52 + z) a))

  unit_pos : 0 < d * 2 ^ z
  unit_pos = mul-pos P (pow_pos z)

  q_most : q ≤ 2 ^ 53
  q_most = le_trans (nearest-le (n / (d * 2 ^ z)) (compare (n % (d * 2 ^ z) * 2) (d * 2 ^ z))) ((div-lt_iff_lt-mul unit_pos).1 below_all)

  q_least : 0 < z → 2 ^ 52 ≤ q
  q_least h = le_trans ((le-div_iff_mul-le unit_pos).1 (from_half h)) (nearest-ge (n / (d * 2 ^ z)) (compare (n % (d * 2 ^ z) * 2) (d * 2 ^ z)))

-- n is at most half a unit from m units, or a quarter down from a power of two
record Found (m n d k : ℕ) : Type 0 where
  over : m * (d * 2 ^ k) * 2 ≤ n * 2 + d * 2 ^ k
  beneath : n * 2 ≤ m * (d * 2 ^ k) * 2 + d * 2 ^ k
  strict : Strict n (d * 2 ^ k) m
  quarter_over : m ≡ 2 ^ 52 → 0 < k → m * (d * 2 ^ k) * 4 ≤ n * 4 + d * 2 ^ k

-- so it is if q are m units
module _ (m n d k : ℕ) (P : 0 < d) (few : m < 2 ^ 53) (normal : (2 ^ 52 ≤ m) ⊎ (k ≡ 0)) (E : q n d P * 2 ^ z n d P ≡ m * 2 ^ k) where
  abbrev A : ℕ
  A = 2 ^ k

  abbrev B : ℕ
  B = 2 ^ z n d P

  not_more : k < z n d P → ⊥
  not_more h =
      let a : 0 < z n d P = omega arith in
      let b : 2 ^ 52 * B ≤ q n d P * B = mul-le-mul_right B (q_least n d P a) in
      let c : m * A < 2 ^ 53 * A = mul-lt-mul_of_pos_right few (pow_pos k) in
      let e : 2 ^ suc k ≤ B = pow_mono h in
      lt_irrefl 0 (omega (arith, b, c, e, pow-suc 2 k, E))

  at_once : z n d P ≡ k → Found m n d k
  at_once e =
      let f : q n d P ≡ m = eq_of_mul-eq-mul_right (2 ^ k) (pow_pos k) (q n d P) m (ap (λ (w : ℕ). q n d P * 2 ^ w) (sym e) ∙ E) in
      let c : Near n (d * 2 ^ z n d P) (unit_pos n d P) (q n d P) = closest_near n (d * 2 ^ z n d P) (unit_pos n d P) in
      let g : Near n (d * 2 ^ k) (mul-pos P (pow_pos k)) m = subst (λ (w : ℕ). (m * (d * 2 ^ w) * 2 ≤ n * 2 + d * 2 ^ w) × (n * 2 ≤ m * (d * 2 ^ w) * 2 + d * 2 ^ w) × Strict n (d * 2 ^ w) m) e (subst (Near n (d * 2 ^ z n d P) (unit_pos n d P)) f c) in
      record {
        over = g.0;
        beneath = g.1;
        strict = g.2;
        quarter_over = λ (a : m ≡ 2 ^ 52) (b : 0 < k). reach a (subst (λ (w : ℕ). 2 ^ 52 * (d * 2 ^ w) ≤ n) e (from_half n d P (subst (λ (w : ℕ). 0 < w) (sym e) b)));
      }
    where
      reach : m ≡ 2 ^ 52 → 2 ^ 52 * (d * 2 ^ k) ≤ n → m * (d * 2 ^ k) * 4 ≤ n * 4 + d * 2 ^ k
      reach a b = omega (arith, ap (λ (w : ℕ). w * (d * 2 ^ k)) a, b)

  one_less : (j : ℕ) → k ≡ suc j → z n d P ≡ j → 2 ^ 52 ≤ m → Found m n d k
  one_less j f e full =
      let w = d * B in
      let c : Near n (d * B) (unit_pos n d P) (q n d P) = closest_near n (d * B) (unit_pos n d P) in
      let a : A ≡ B * 2 = ap (λ (i : ℕ). 2 ^ i) f ∙ pow-suc 2 j ∙ ap (λ (i : ℕ). 2 ^ i * 2) (sym e) in
      let o : 0 < B = pow_pos (z n d P) in
      let l : 2 ^ 52 * A ≤ m * A = mul-le-mul_right A full in
      let h : q n d P * B ≤ 2 ^ 53 * B = mul-le-mul_right B (q_most n d P) in
      let all : q n d P ≡ 2 ^ 53 = eq_of_mul-eq-mul_right B o (q n d P) (2 ^ 53) (omega (arith, a, l, h, E)) in
      let exact : m ≡ 2 ^ 52 = eq_of_mul-eq-mul_right A (pow_pos k) m (2 ^ 52) (omega (arith, a, l, h, E)) in
      let unit : d * A ≡ d * B * 2 = ap (λ (i : ℕ). d * i) a ∙ sym (mul_assoc d B 2) in
      let mu : m * (d * A) ≡ 2 ^ 52 * (d * A) = ap (λ (i : ℕ). i * (d * A)) exact in
      let qw : q n d P * (d * B) ≡ 2 ^ 53 * (d * B) = ap (λ (i : ℕ). i * (d * B)) all in
      record {
        over = omega (arith, c.0, unit, mu, qw);
        beneath = omega (arith, c.1, unit, mu, qw);
        strict = inl (ap (λ (i : ℕ). i % 2) exact);
        quarter_over = λ (x : m ≡ 2 ^ 52) (y : 0 < k). omega (arith, c.0, unit, mu, qw);
      }

  two_less : suc (z n d P) < k → 2 ^ 52 ≤ m → ⊥
  two_less h full =
      let a : 2 ^ 52 * A ≤ m * A = mul-le-mul_right A full in
      let b : q n d P * B ≤ 2 ^ 53 * B = mul-le-mul_right B (q_most n d P) in
      let c : 2 ^ suc (suc (z n d P)) ≤ A = pow_mono h in
      let o : 0 < B = pow_pos (z n d P) in
      lt_irrefl 0 (omega (arith, a, b, c, o, pow-suc 2 (suc (z n d P)), pow-suc 2 (z n d P), E))

  found : Found m n d k
  found = go (ltb k (z n d P)) refl (eqb (z n d P) k) refl normal
    where
      zero_less : z n d P ≤ k → (z n d P ≡ k → ⊥) → k ≡ 0 → ⊥
      zero_less a b c = b (omega arith)

      next : z n d P ≤ k → (z n d P ≡ k → ⊥) → k ≡ suc (k - 1)
      next a b = omega (arith, b)

      last : z n d P ≤ k → (z n d P ≡ k → ⊥) → k ≤ suc (z n d P) → z n d P ≡ k - 1
      last a b c = omega (arith, b)

      less : z n d P ≤ k → (z n d P ≡ k → ⊥) → 2 ^ 52 ≤ m → (b : Bool) → ltb (suc (z n d P)) k ≡ b → Found m n d k
      less a b full true e = absurd (two_less (ltb-true (suc (z n d P)) k e) full)
      less a b full false e = one_less (k - 1) (next a b) (last a b (ltb-false (suc (z n d P)) k e)) full

      go : (a : Bool) → ltb k (z n d P) ≡ a → (b : Bool) → eqb (z n d P) k ≡ b → (2 ^ 52 ≤ m) ⊎ (k ≡ 0) → Found m n d k
      go true a b c f = absurd (not_more (ltb-true k (z n d P) a))
      go false a true c f = at_once (eqb-true (z n d P) k c)
      go false a false c (inl f) = less (ltb-false k (z n d P) a) (eqb-false (z n d P) k c) f (ltb (suc (z n d P)) k) refl
      go false a false c (inr f) = absurd (zero_less (ltb-false k (z n d P) a) (eqb-false (z n d P) k c) f)

-- one more at an end that does not count
end_low : (a r x : ℕ) → a ≤ x → r ≡ 0 → a + r ≤ x
end_low a r x h e = omega arith

end_above : (a r x : ℕ) → a < x → r ≡ 1 → a + r ≤ x
end_above a r x h e = omega arith

end_high : (a r x : ℕ) → x ≤ a → r ≡ 0 → x < a + (1 - r)
end_high a r x h e = omega arith

end_below : (a r x : ℕ) → x < a → x < a + (1 - r)
end_below a r x h = omega arith

-- back to decimals
module _ (k c x : ℕ) where
  abbrev w : ℕ
  w = c * (10 ^ (1080 - suc k) * 2 ^ k)

  le_of : w ≤ x * 2 ^ 1074 * 32 → scaled (suc k) c ≤ x
  le_of h = go (leb (scaled (suc k) c) x) refl
    where
      go : (b : Bool) → leb (scaled (suc k) c) x ≡ b → scaled (suc k) c ≤ x
      go true e = leb-true (scaled (suc k) c) x e
      go false e = absurd (not-le_of_lt (high_lt k c x (leb-false (scaled (suc k) c) x e)) h)

  lt_of : w < x * 2 ^ 1074 * 32 → scaled (suc k) c < x
  lt_of h = go (ltb (scaled (suc k) c) x) refl
    where
      go : (b : Bool) → ltb (scaled (suc k) c) x ≡ b → scaled (suc k) c < x
      go true e = ltb-true (scaled (suc k) c) x e
      go false e = absurd (not-le_of_lt h (high_le k c x (ltb-false (scaled (suc k) c) x e)))

  ge_of : x * 2 ^ 1074 * 32 ≤ w → x ≤ scaled (suc k) c
  ge_of h = go (leb x (scaled (suc k) c)) refl
    where
      go : (b : Bool) → leb x (scaled (suc k) c) ≡ b → x ≤ scaled (suc k) c
      go true e = leb-true x (scaled (suc k) c) e
      go false e = absurd (not-le_of_lt (low_lt k c x (leb-false x (scaled (suc k) c) e)) h)

  gt_of : x * 2 ^ 1074 * 32 < w → x < scaled (suc k) c
  gt_of h = go (ltb x (scaled (suc k) c)) refl
    where
      go : (b : Bool) → ltb x (scaled (suc k) c) ≡ b → x < scaled (suc k) c
      go true e = ltb-true x (scaled (suc k) c) e
      go false e = absurd (not-le_of_lt h (low_le k c x (ltb-false x (scaled (suc k) c) e)))

module _ (s : Bool) (m under k x : ℕ) (some : 0 < m) (few : m < 2 ^ 53) (normal : (2 ^ 52 ≤ m) ⊎ (k ≡ 0)) (close : under ≤ 16) (lower-neighbour : Lower m under k) where
  abbrev D : ℕ
  D = 10 ^ (1080 - suc k)

  abbrev U : ℕ
  U = 10 ^ (1080 - suc k) * 2 ^ k

  abbrev N : ℕ
  N = x * 2 ^ 1074

  -- what is read as the real is between the numbers half way to its neighbours
  pub read_between : round binary64 s x (10 ^ (1080 - suc k)) ≡ odd 53 s m k 1074 → between (lowest m under (suc k)) (beyond m (suc k)) x ≡ true
  read_between e =
      let P = ten_pos (1080 - suc k) in
      let f = found m N D k P few normal (units_same s (q N D P) (z N D P) m k (sym (round_closest s x D) ∙ e)) in
      from_inside m under (suc k) x (low f lower-neighbour (eqb (m % 2) 0) refl f.strict, high f (eqb (m % 2) 0) refl f.strict)
    where
      odd_one : (m % 2 ≡ 0 → ⊥) → m % 2 ≡ 1
      odd_one f = omega (arith, f)

      low : Found m N D k → Lower m under k → (b : Bool) → eqb (m % 2) 0 ≡ b → Strict N U m → scaled (suc k) (32 * m - under) + m % 2 ≤ x
      low f (inl e) true g t = end_low _ (m % 2) x (le_of k (32 * m - under) x (lower_from m under N U some close e.0 f.over)) (eqb-true (m % 2) 0 g)
      low f (inl e) false g (inl t) = absurd (eqb-false (m % 2) 0 g t)
      low f (inl e) false g (inr t) = end_above _ (m % 2) x (lt_of k (32 * m - under) x (lower_from_lt m under N U some close e.0 t.0)) (odd_one (eqb-false (m % 2) 0 g))
      low f (inr e) b g t = end_low _ (m % 2) x (le_of k (32 * m - under) x (quarter_from m under N U some close e.0 (f.quarter_over e.1 e.2))) (ap (λ (i : ℕ). i % 2) e.1)

      high : Found m N D k → (b : Bool) → eqb (m % 2) 0 ≡ b → Strict N U m → x < scaled (suc k) (32 * m + 16) + (1 - m % 2)
      high f true g t = end_high _ (m % 2) x (ge_of k (32 * m + 16) x (upper_from m under N U some close f.beneath)) (eqb-true (m % 2) 0 g)
      high f false g (inl t) = absurd (eqb-false (m % 2) 0 g t)
      high f false g (inr t) = end_below _ (m % 2) x (gt_of k (32 * m + 16) x (upper_from_lt m under N U some close t.1))
