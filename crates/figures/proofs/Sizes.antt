-- How large the numbers of a finite real are: below 10 ^ 772, and with at least 18 digits.
-- Assumes nothing.
use mathlib.Core.Path.{◌≡◌, refl, sym, ap, ◌∙◌, subst}
use mathlib.Core.Bool.{Bool, true, false, cond, ◌&&◌}
use mathlib.Core.Logic.{◌⊎◌, inl, inr}
use Prim.Native.Nat.{ℕ, ◌+◌, ◌*◌, ◌-◌, ◌/◌, ◌%◌, ◌^◌, ◌≤◌, ◌<◌}
use native.Mathlib.Nat.{le_trans, le_refl, le_of_eq, le_of_lt, lt_of_le_of_lt, lt_of_lt_of_le, mul-le-mul, mul-le-mul_right, mul-lt-mul_of_pos_right, le-mul_of_pos_right, mul_right_comm, add-mul, add-zero, mul-one, one-le-pow, pow-suc, pow-le-pow_right, lt_irrefl}
use native.Mathlib.Numerals.{add-one}
use native.Mathlib.Omega.{arith}
use lib.Dec.{leb, eqb, lit<, lit≤}
use borrow.Author.Tests.{leb-true, leb-false, eqb-false, eq-eqb, ne_eqb, lt-ltb, le-ltb}
use Rattle.figures.specs.Digits.{places_to}
use Rattle.figures.specs.Fewest.{scaled, lowest, beyond, near, least, trimmed, cut, decimal_of, whole_of, place_of, under_of, figures_of, Ready, Finite, Small}
use Rattle.figures.proofs.Spelling.{start_is, part_fits}
use Rattle.figures.proofs.Rounding.{places_most, places_under, places_least}

product_le : (n m a b c d : ℕ) → n ≤ m → a ≤ b → c ≤ d → n * a * c ≤ m * b * d
product_le n m a b c d p q r = mul-le-mul (mul-le-mul p q) r

pub scaled_fits : (y n : ℕ) → n ≤ 2 ^ 58 → 0 < y → y ≤ 2046 → scaled y n < 10 ^ 772
unfolding scaled
scaled_fits y n h p l = go (leb y 1080) refl
  where
    small : y ≤ 1080 → y - 1080 ≤ 0
    small k = omega arith

    deep : 1080 - y ≤ 1079
    deep = omega arith

    high : y - 1080 ≤ 966
    high = omega arith

    large : 1080 < y → 1080 - y ≤ 0
    large k = omega arith

    go : (b : Bool) → leb y 1080 ≡ b → n * 2 ^ (y - 1080) * 5 ^ (1080 - y) < 10 ^ 772
    go true e = lt_of_le_of_lt (product_le n (2 ^ 58) (2 ^ (y - 1080)) (2 ^ 0) (5 ^ (1080 - y)) (5 ^ 1079) h (pow-le-pow_right (lit< tt) (small (leb-true y 1080 e))) (pow-le-pow_right (lit< tt) deep)) (lit< tt)
    go false e = lt_of_le_of_lt (product_le n (2 ^ 58) (2 ^ (y - 1080)) (2 ^ 966) (5 ^ (1080 - y)) (5 ^ 0) h (pow-le-pow_right (lit< tt) high) (pow-le-pow_right (lit< tt) (large (leb-false y 1080 e)))) (lit< tt)

-- factor by factor
module _ (y n : ℕ) (h : n < 2 ^ 58) (p : 0 < y) (l : y ≤ 2046) where
  pub first_fits : (z : ℕ) → z ≡ 0 → z * 1 + n < 10 ^ 772
  unfolding scaled
  first_fits z e =
      subst (λ (x : ℕ). x < 10 ^ 772) (sym (start_is z n e))
      (part_fits n (2 ^ (y - 1080)) (10 ^ 772) (one-le-pow (y - 1080) 2 (lit< tt)) (part_fits (n * 2 ^ (y - 1080)) (5 ^ (1080 - y)) (10 ^ 772) (one-le-pow (1080 - y) 5 (lit< tt)) (scaled_fits y n (le_of_lt h) p l)))

  second_is : (z a o : ℕ) → z ≡ 0 → a ≡ z * 1 + n → o ≡ y - 1080 → a * 2 ^ o ≡ n * 2 ^ (y - 1080)
  second_is z a o ez ea eo = ap (λ (x : ℕ). x * 2 ^ o) (ea ∙ start_is z n ez) ∙ ap (λ (x : ℕ). n * 2 ^ x) eo

  pub second_fits : (z a o : ℕ) → z ≡ 0 → a ≡ z * 1 + n → o ≡ y - 1080 → a * 2 ^ o < 10 ^ 772
  unfolding scaled
  second_fits z a o ez ea eo =
      subst (λ (x : ℕ). x < 10 ^ 772) (sym (second_is z a o ez ea eo)) (part_fits (n * 2 ^ (y - 1080)) (5 ^ (1080 - y)) (10 ^ 772) (one-le-pow (1080 - y) 5 (lit< tt)) (scaled_fits y n (le_of_lt h) p l))

  pub third_is : (z a o b q : ℕ) → z ≡ 0 → a ≡ z * 1 + n → o ≡ y - 1080 → b ≡ a * 2 ^ o → q ≡ 1080 - y → b * 5 ^ q ≡ scaled y n
  unfolding scaled
  third_is z a o b q ez ea eo eb eq = ap (λ (x : ℕ). x * 5 ^ q) (eb ∙ second_is z a o ez ea eo) ∙ ap (λ (x : ℕ). n * 2 ^ (y - 1080) * 5 ^ x) eq

  pub third_fits : (z a o b q : ℕ) → z ≡ 0 → a ≡ z * 1 + n → o ≡ y - 1080 → b ≡ a * 2 ^ o → q ≡ 1080 - y → b * 5 ^ q < 10 ^ 772
  third_fits z a o b q ez ea eo eb eq = subst (λ (x : ℕ). x < 10 ^ 772) (sym (third_is z a o b q ez ea eo eb eq)) (scaled_fits y n (le_of_lt h) p l)

scaled_mono : (y a b : ℕ) → a ≤ b → scaled y a ≤ scaled y b
unfolding scaled
scaled_mono y a b h = mul-le-mul_right (5 ^ (1080 - y)) (mul-le-mul_right (2 ^ (y - 1080)) h)

scaled_times : (y n k : ℕ) → scaled y (n * k) ≡ scaled y n * k
unfolding scaled
scaled_times y n k = ap (λ (x : ℕ). x * 5 ^ (1080 - y)) (mul_right_comm n k (2 ^ (y - 1080))) ∙ mul_right_comm (n * 2 ^ (y - 1080)) k (5 ^ (1080 - y))

scaled_least : (y n : ℕ) → n ≤ scaled y n
unfolding scaled
scaled_least y n = le_trans (le-mul_of_pos_right n (one-le-pow (y - 1080) 2 (lit< tt))) (le-mul_of_pos_right (n * 2 ^ (y - 1080)) (one-le-pow (1080 - y) 5 (lit< tt)))

scaled_low : (n : ℕ) → 0 < n → 10 ^ 17 ≤ scaled 1 n
unfolding scaled
scaled_low n h = le_trans (lit≤ {m = 10 ^ 17} {n = 1 * 1 * 5 ^ 1079} tt) (product_le 1 n 1 (2 ^ 0) (5 ^ 1079) (5 ^ 1079) h (le_refl 1) (le_refl (5 ^ 1079)))

-- at least 18 digits
pub many : (m under y : ℕ) → Finite m under y → 10 ^ 17 ≤ scaled y (32 * m)
many m under y f = go f.normal
  where
    full : 2 ^ 52 ≤ m → 10 ^ 17 ≤ 32 * m
    full h = omega arith

    some : 0 < 32 * m
    some = omega (arith, f.some)

    go : (2 ^ 52 ≤ m) ⊎ (y ≡ 1) → 10 ^ 17 ≤ scaled y (32 * m)
    go (inl h) = le_trans (full h) (scaled_least y (32 * m))
    go (inr e) = subst (λ (z : ℕ). 10 ^ 17 ≤ scaled z (32 * m)) (sym e) (scaled_low (32 * m) some)

-- one 32nd is at least 1
scaled_next : (y n more : ℕ) → more < 2 → scaled y n + more ≤ scaled y (n + 1)
unfolding scaled
scaled_next y n more h =
    let a : (n + 1) * 2 ^ (y - 1080) * 5 ^ (1080 - y) ≡ n * 2 ^ (y - 1080) * 5 ^ (1080 - y) + 1 * 2 ^ (y - 1080) * 5 ^ (1080 - y) = ap (λ (x : ℕ). x * 5 ^ (1080 - y)) (add-mul n 1 (2 ^ (y - 1080))) ∙ add-mul (n * 2 ^ (y - 1080)) (1 * 2 ^ (y - 1080)) (5 ^ (1080 - y)) in
    let b : 1 ≤ 1 * 2 ^ (y - 1080) * 5 ^ (1080 - y) = scaled_least y 1 in
    omega (arith, a, b)

-- and a last one on top
module _ (y n more : ℕ) (h : n < 2 ^ 58) (p : 0 < y) (l : y ≤ 2046) (k : more < 2) (w : ℕ) (e : w ≡ scaled y n) where
  pub more_is : w * 1 + more ≡ scaled y n + more
  more_is = ap (λ (x : ℕ). x + more) (mul-one w ∙ e)

  pub more_fits : w * 1 + more < 10 ^ 772
  more_fits = subst (λ (x : ℕ). x < 10 ^ 772) (sym more_is) (lt_of_le_of_lt (scaled_next y n more k) (scaled_fits y (n + 1) (omega arith) p l))

pub ready : (m under y : ℕ) → Finite m under y → Ready (scaled y (32 * m)) (lowest m under y) (beyond m y) (places_to 772 (scaled y (32 * m)))
unfolding lowest beyond
ready m under y f =
    let v = scaled y (32 * m) in
    let fits : v < 10 ^ 772 = scaled_fits y (32 * m) (least_of m f.few) f.least f.most in
    let below : v < 10 ^ places_to 772 v = places_under v 772 fits in
    let ten : v * 10 < 10 ^ (places_to 772 v + 1) = lt_of_lt_of_le (mul-lt-mul_of_pos_right below (lit< tt)) (le_of_eq (sym (ap (λ (x : ℕ). 10 ^ x) (add-one (places_to 772 v)) ∙ pow-suc 10 (places_to 772 v)))) in
    record {
      many = places_least v 772 17 (many m under y f) (lit< tt);
      few = places_most v 772;
      under = below;
      under_low = lt_of_le_of_lt (within (32 * m - under) (m % 2) (odd m) (less m under f.some)) ten;
      under_high = lt_of_le_of_lt (within (32 * m + 16) (1 - m % 2) (even m) (more m f.some)) ten;
    }
  where
    least_of : (m : ℕ) → m < 2 ^ 53 → 32 * m ≤ 2 ^ 58
    least_of m h = omega arith

    odd : (m : ℕ) → m % 2 < 2
    odd m = omega arith

    even : (m : ℕ) → 1 - m % 2 < 2
    even m = omega arith

    less : (m under : ℕ) → 0 < m → 32 * m - under + 1 ≤ 32 * m * 10
    less m under h = omega arith

    more : (m : ℕ) → 0 < m → 32 * m + 16 + 1 ≤ 32 * m * 10
    more m h = omega arith

    within : (n k : ℕ) → k < 2 → n + 1 ≤ 32 * m * 10 → scaled y n + k ≤ scaled y (32 * m) * 10
    within n k h l = le_trans (scaled_next y n k h) (le_trans (scaled_mono y (n + 1) (32 * m * 10) l) (le_of_eq (scaled_times y (32 * m) 10)))

-- ---- the steps together

-- what the numbers of a finite real are, when they have been worked out
module _ (m under y v low high t : ℕ) (ev : v ≡ scaled y (32 * m) + 0) (el : low ≡ scaled y (32 * m - under) + m % 2) (eh : high ≡ scaled y (32 * m + 16) + (1 - m % 2)) (et : t ≡ places_to 772 v) where
  v_is : v ≡ scaled y (32 * m)
  v_is = ev ∙ add-zero (scaled y (32 * m))

  low_at : low ≡ lowest m under y
  unfolding lowest
  low_at = el

  high_at : high ≡ beyond m y
  unfolding beyond
  high_at = eh

  pub ready_of : Finite m under y → Ready v low high t
  ready_of f = rw (et, v_is, low_at, high_at) (ready m under y f)

  pub decimal_is : (p c down : ℕ) → p ≡ least v low high t → c ≡ near v (t - p) → down ≡ 1080 - y → trimmed c (t - p) down ≡ decimal_of m under y
  unfolding decimal_of cut
  decimal_is p c down ep ec ed = rw (ec, ep, et, v_is, low_at, high_at, ed)

pub trimmed_small : (c up down : ℕ) → c ≤ 10 ^ 17 → up < 999 → down < 1100 → Small (trimmed c up down)
unfolding trimmed
trimmed_small c up down h k l = go (eqb (c % 10) 0) refl
  where
    go : (b : Bool) → eqb (c % 10) 0 ≡ b → Small (cond b (record { figures = c / 10; up = up + 1; down = down }) (record { figures = c; up = up; down = down }))
    go true e = record { figures = omega arith; up = omega arith; down = l }
    go false e =
        let n = eqb-false (c % 10) 0 e in
        record { figures = omega (arith, n); up = omega arith; down = l }

-- ---- the cases of the two fields

module _ (x t : ℕ) where
  pub some_is : (whole_of x t ≡ 0 → ⊥) → figures_of x t ≡ decimal_of (whole_of x t) (under_of x t) (place_of x)
  unfolding figures_of
  some_is n = rw (ne_eqb (whole_of x t) 0 n)

  figures_at : (m under y : ℕ) → whole_of x t ≡ m → under_of x t ≡ under → place_of x ≡ y → (m ≡ 0 → ⊥) → decimal_of m under y ≡ figures_of x t
  figures_at m under y a b c n = sym (some_is (λ (e : whole_of x t ≡ 0). n (sym a ∙ e)) ∙ rw (a, b, c))

  pub low_whole : x ≡ 0 → whole_of x t ≡ t
  unfolding whole_of
  low_whole e = rw (eq-eqb x 0 e)

  pub high_whole : (x ≡ 0 → ⊥) → whole_of x t ≡ 2 ^ 52 + t
  unfolding whole_of
  high_whole e = rw (ne_eqb x 0 e)

  pub low_place : x ≡ 0 → place_of x ≡ 1
  unfolding place_of
  low_place e = rw (eq-eqb x 0 e)

  pub high_place : (x ≡ 0 → ⊥) → place_of x ≡ x
  unfolding place_of
  high_place e = rw (ne_eqb x 0 e)

  pub half_under : t ≡ 0 → 1 < x → under_of x t ≡ 8
  unfolding under_of
  half_under e k = rw (eq-eqb t 0 e, lt-ltb 1 x k)

  pub first_under : x ≤ 1 → under_of x t ≡ 16
  unfolding under_of
  first_under k = rw (le-ltb 1 x k) (both (eqb t 0))
    where
      both : (b : Bool) → cond {A = ℕ} (b && false) 8 16 ≡ 16
      both true = refl
      both false = refl

  pub whole_under : (t ≡ 0 → ⊥) → under_of x t ≡ 16
  unfolding under_of
  whole_under n = rw (ne_eqb t 0 n)

  large : 2 ^ 52 + t ≡ 0 → ⊥
  large e = absurd (lt_irrefl 0 (omega arith))

  pub zero_is : x ≡ 0 → t ≡ 0 → record { figures = 0; up = 0; down = 0 } ≡ figures_of x t
  unfolding figures_of
  zero_is e f = rw (eq-eqb (whole_of x t) 0 (low_whole e ∙ f))

  pub low_is : x ≡ 0 → (t ≡ 0 → ⊥) → decimal_of t 16 1 ≡ figures_of x t
  low_is e f = figures_at t 16 1 (low_whole e) (whole_under f) (low_place e) f

  pub power_is : (x ≡ 0 → ⊥) → t ≡ 0 → 1 < x → decimal_of (2 ^ 52) 8 x ≡ figures_of x t
  power_is e z k = figures_at (2 ^ 52) 8 x (high_whole e ∙ ap (λ (w : ℕ). 2 ^ 52 + w) z) (half_under z k) (high_place e) (λ (w : 2 ^ 52 ≡ 0). absurd (lt_irrefl 0 (omega arith)))

  pub normal_is : (x ≡ 0 → ⊥) → (t ≡ 0 → ⊥) → decimal_of (2 ^ 52 + t) 16 x ≡ figures_of x t
  normal_is e f = figures_at (2 ^ 52 + t) 16 x (high_whole e) (whole_under f) (high_place e) large

  pub one_is : (x ≡ 0 → ⊥) → x ≤ 1 → decimal_of (2 ^ 52 + t) 16 x ≡ figures_of x t
  one_is e k = figures_at (2 ^ 52 + t) 16 x (high_whole e) (first_under k) (high_place e) large
