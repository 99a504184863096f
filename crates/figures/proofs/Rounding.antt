-- Rounding to a digit by the digits below it, and comparing with a decimal by the digits above: all by dividing by a power of ten.
-- Assumes nothing.
use mathlib.Core.Path.{◌≡◌, refl, sym, ap, ◌∙◌, subst}
use mathlib.Core.Bool.{Bool, true, false, cond, ◌&&◌}
use Prim.Native.Nat.{ℕ, zero, suc, ◌+◌, ◌*◌, ◌-◌, ◌/◌, ◌%◌, ◌^◌, ◌≤◌, ◌<◌, compare, Ordering}
use native.Mathlib.Nat.{pow-suc, pow-succ', add-mul, mul-le-mul_right, div-div-eq-div-mul, div-add-mod', mod-lt, div-lt_iff_lt-mul, le-div_iff_mul-le, le_trans, lt_of_lt_of_le, le_refl, le_of_eq, lt_trans, pow-le-pow_right, lt_of_not-le, not-le_of_lt, le_of_lt, div-eq_of_lt, max-le}
use native.Mathlib.Omega.{arith}
use native.Mathlib.Numerals.{add-one}
use lib.Arith.{mod-mul}
use lib.Pow.{pow-add}
use lib.Dec.{leb, ltb, eqb, is_le, compare_is_eq, lit<}
use lib.Ieee.{nearest}
use lib.Ieee.Fits.{nearest-le}
use borrow.Author.Tests.{lt-ltb, le-ltb, le-leb, lt-leb, eq-eqb, ne_eqb, leb-true, leb-false, eqb-true, eqb-false, ltb-true, ltb-false}
use Rattle.figures.specs.Digits.{places_to}
use Rattle.figures.specs.Fewest.{near, between, least_from, least, Ready}
use Rattle.figures.specs.Written.{width}
use Rattle.figures.proofs.Spelling.{ten_pos}

-- ---- what `compare` says

pub compare_lt : (a b : ℕ) → a < b → compare a b ≡ Ordering.lt
compare_lt a b h = go (compare a b) (le-leb a b (omega arith)) (ne_eqb a b (λ e. absurd (omega arith)))
  where
    go : (o : Ordering) → is_le o ≡ true → compare_is_eq o ≡ false → o ≡ Ordering.lt
    go Ordering.lt p q = refl
    go Ordering.eq p q = cc
    go Ordering.gt p q = cc

pub compare_eq : (a b : ℕ) → a ≡ b → compare a b ≡ Ordering.eq
compare_eq a b h = go (compare a b) (eq-eqb a b h)
  where
    go : (o : Ordering) → compare_is_eq o ≡ true → o ≡ Ordering.eq
    go Ordering.lt q = cc
    go Ordering.eq q = refl
    go Ordering.gt q = cc

pub compare_gt : (a b : ℕ) → b < a → compare a b ≡ Ordering.gt
compare_gt a b h = go (compare a b) (lt-leb a b h)
  where
    go : (o : Ordering) → is_le o ≡ false → o ≡ Ordering.gt
    go Ordering.lt p = cc
    go Ordering.eq p = cc
    go Ordering.gt p = refl

-- ---- the nearest: by the digit below, and whether anything but 0 is below that

module _ (v i : ℕ) where
  whole_part : v / 10 ^ suc i ≡ v / 10 ^ i / 10
  whole_part = ap (λ (x : ℕ). v / x) (pow-suc 10 i) ∙ sym (div-div-eq-div-mul v (10 ^ i) 10)

  rest_part : v % 10 ^ suc i ≡ v / 10 ^ i % 10 * 10 ^ i + v % 10 ^ i
  rest_part = ap (λ (x : ℕ). v % x) (pow-succ' 10 i) ∙ mod-mul v (omega arith) (ten_pos i)

  near_is : (o : Ordering) → compare (v % 10 ^ suc i * 2) (10 ^ suc i) ≡ o → near v (suc i) ≡ nearest (v / 10 ^ i / 10) o
  unfolding near
  near_is o e = ap (λ (p : Ordering). nearest (v / 10 ^ suc i) p) e ∙ ap (λ (x : ℕ). nearest x o) whole_part

  near_down : v / 10 ^ i % 10 < 5 → near v (suc i) ≡ v / 10 ^ i / 10
  near_down h =
      let a : suc (v / 10 ^ i % 10) * 10 ^ i ≤ 5 * 10 ^ i = mul-le-mul_right (10 ^ i) h in
      near_is Ordering.lt (compare_lt _ _ (omega (arith, rest_part, pow-succ' 10 i, mod-lt v (ten_pos i), add-mul (v / 10 ^ i % 10) 1 (10 ^ i), a)))

  near_up : 5 < v / 10 ^ i % 10 → near v (suc i) ≡ v / 10 ^ i / 10 + 1
  near_up h =
      let a : 6 * 10 ^ i ≤ v / 10 ^ i % 10 * 10 ^ i = mul-le-mul_right (10 ^ i) h in
      near_is Ordering.gt (compare_gt _ _ (omega (arith, rest_part, pow-succ' 10 i, ten_pos i, a))) ∙ sym (add-one (v / 10 ^ i / 10))

  half : v / 10 ^ i % 10 ≡ 5 → v / 10 ^ i % 10 * 10 ^ i ≡ 5 * 10 ^ i
  half h = ap (λ (x : ℕ). x * 10 ^ i) h

  near_tie : v / 10 ^ i % 10 ≡ 5 → eqb (v % 10 ^ i) 0 ≡ true → near v (suc i) ≡ v / 10 ^ i / 10 + v / 10 ^ i / 10 % 2
  near_tie h z = near_is Ordering.eq (compare_eq _ _ (omega (arith, rest_part, pow-succ' 10 i, half h, eqb-true (v % 10 ^ i) 0 z)))

  near_over : v / 10 ^ i % 10 ≡ 5 → eqb (v % 10 ^ i) 0 ≡ false → near v (suc i) ≡ v / 10 ^ i / 10 + 1
  near_over h z =
      let n : v % 10 ^ i ≡ 0 → ⊥ = eqb-false _ _ z in
      near_is Ordering.gt (compare_gt _ _ (omega (arith, rest_part, pow-succ' 10 i, half h, n))) ∙ sym (add-one (v / 10 ^ i / 10))

-- the same of h, the digits above the j - 1 lowest
module _ (v j h : ℕ) (p : 0 < j) (e : h ≡ v / 10 ^ (j - 1)) where
  at : suc (j - 1) ≡ j
  at = omega arith

  pub rounds_down : h % 10 < 5 → h / 10 ≡ near v j
  rounds_down k = ap (λ (x : ℕ). x / 10) e ∙ sym (ap (near v) (sym at) ∙ near_down v (j - 1) (subst (λ (x : ℕ). x % 10 < 5) e k))

  pub rounds_up : 5 < h % 10 → h / 10 + 1 ≡ near v j
  rounds_up k = ap (λ (x : ℕ). x / 10 + 1) e ∙ sym (ap (near v) (sym at) ∙ near_up v (j - 1) (subst (λ (x : ℕ). 5 < x % 10) e k))

  pub rounds_even : h % 10 ≡ 5 → eqb (v % 10 ^ (j - 1)) 0 ≡ true → h / 10 + h / 10 % 2 ≡ near v j
  rounds_even k z = ap (λ (x : ℕ). x / 10 + x / 10 % 2) e ∙ sym (ap (near v) (sym at) ∙ near_tie v (j - 1) (subst (λ (x : ℕ). x % 10 ≡ 5) e k) z)

  pub rounds_over : h % 10 ≡ 5 → eqb (v % 10 ^ (j - 1)) 0 ≡ false → h / 10 + 1 ≡ near v j
  rounds_over k z = ap (λ (x : ℕ). x / 10 + 1) e ∙ sym (ap (near v) (sym at) ∙ near_over v (j - 1) (subst (λ (x : ℕ). x % 10 ≡ 5) e k) z)

-- ---- against c · 10 ^ j

module _ (v c j : ℕ) where
  under : v / 10 ^ j < c → v < c * 10 ^ j
  under h = (div-lt_iff_lt-mul (ten_pos j)).0 h

  passes : c < v / 10 ^ j → c * 10 ^ j < v
  passes h =
      let a : suc c * 10 ^ j ≤ v = (le-div_iff_mul-le (ten_pos j)).0 h in
      omega (arith, a, ten_pos j, add-mul c 1 (10 ^ j))

  meets : v / 10 ^ j ≡ c → c * 10 ^ j + v % 10 ^ j ≡ v
  meets e = ap (λ (x : ℕ). x * 10 ^ j + v % 10 ^ j) (sym e) ∙ div-add-mod' v (10 ^ j)

-- h is v without its j lowest digits
module _ (v c j h : ℕ) (e : h ≡ v / 10 ^ j) where
  pub reaches_aside : (h ≡ c → ⊥) → ltb h c ≡ leb v (c * 10 ^ j)
  reaches_aside n = go (ltb h c) refl
    where
      go : (b : Bool) → ltb h c ≡ b → b ≡ leb v (c * 10 ^ j)
      go true z =
          let l = under v c j (subst (λ (y : ℕ). y < c) e (ltb-true h c z)) in
          sym (le-leb v (c * 10 ^ j) (omega arith))
      go false z =
          let k = ltb-false h c z in
          sym (lt-leb v (c * 10 ^ j) (passes v c j (subst (λ (y : ℕ). c < y) e (omega (arith, n)))))

  pub reaches_at : h ≡ c → eqb (v % 10 ^ j) 0 ≡ leb v (c * 10 ^ j)
  reaches_at k = go (eqb (v % 10 ^ j) 0) refl
    where
      go : (b : Bool) → eqb (v % 10 ^ j) 0 ≡ b → b ≡ leb v (c * 10 ^ j)
      go true z = sym (le-leb v (c * 10 ^ j) (omega (arith, meets v c j (sym e ∙ k), eqb-true (v % 10 ^ j) 0 z)))
      go false z =
          let n : v % 10 ^ j ≡ 0 → ⊥ = eqb-false _ _ z in
          sym (lt-leb v (c * 10 ^ j) (omega (arith, meets v c j (sym e ∙ k), n)))

-- ---- both ends

module _ (low high x : ℕ) where
  pub between_beyond : leb high x ≡ true → between low high x ≡ false
  unfolding between
  between_beyond h = rw (le-ltb x high (leb-true high x h)) (none (leb low x))
    where
      none : (b : Bool) → b && false ≡ false
      none true = refl
      none false = refl

  pub between_before : leb high x ≡ false → between low high x ≡ leb low x
  unfolding between
  between_before h = rw (lt-ltb x high (leb-false high x h)) (same (leb low x))
    where
      same : (b : Bool) → b && true ≡ b
      same true = refl
      same false = refl

-- ---- the first number of digits that gives the real back

module _ (v low high t : ℕ) where
  step : (n p : ℕ) (b : Bool) → between low high (near v (t - p) * 10 ^ (t - p)) ≡ b → least_from v low high t (suc n) p ≡ cond b p (least_from v low high t n (suc p))
  unfolding least_from
  step n p b e = ap (λ (x : Bool). cond x p (least_from v low high t n (suc p))) e

  pub enough_stop : (p : ℕ) → p < 17 → between low high (near v (t - p) * 10 ^ (t - p)) ≡ true → least_from v low high t (17 - p) p ≡ p
  enough_stop p h e =
      let s : 17 - p ≡ suc (16 - p) = omega arith in
      ap (λ (n : ℕ). least_from v low high t n p) s ∙ step (16 - p) p true e

  pub enough_on : (p : ℕ) → p < 17 → between low high (near v (t - p) * 10 ^ (t - p)) ≡ false → least_from v low high t (17 - p) p ≡ least_from v low high t (17 - (p + 1)) (p + 1)
  enough_on p h e =
      let s : 17 - p ≡ suc (16 - p) = omega arith in
      let f : 16 - p ≡ 17 - (p + 1) = omega arith in
      ap (λ (n : ℕ). least_from v low high t n p) s ∙ step (16 - p) p false e ∙ ap (λ (n : ℕ). least_from v low high t n (suc p)) f ∙ ap (λ (n : ℕ). least_from v low high t (17 - (p + 1)) n) (sym (add-one p))

  pub enough_end : (p : ℕ) → p ≡ 17 → least_from v low high t (17 - p) p ≡ p
  unfolding least_from
  enough_end p e = ap (λ (n : ℕ). least_from v low high t (17 - n) n) e ∙ sym e

  least_in : (n p : ℕ) → (p ≤ least_from v low high t n p) × (least_from v low high t n p ≤ p + n)
  unfolding least_from
  least_in zero p = (le_refl p, omega arith)
  least_in (suc n) p = go (between low high (near v (t - p) * 10 ^ (t - p))) refl (least_in n (suc p))
    where
      go : (b : Bool) → between low high (near v (t - p) * 10 ^ (t - p)) ≡ b → (suc p ≤ least_from v low high t n (suc p)) × (least_from v low high t n (suc p) ≤ suc p + n)
          → (p ≤ least_from v low high t (suc n) p) × (least_from v low high t (suc n) p ≤ p + suc n)
      go true e h = rw (step n p true e) (le_refl p, omega arith)
      go false e h = rw (step n p false e) (omega arith, omega arith)

  pub range_of : (p : ℕ) → p ≡ least v low high t → (1 ≤ p) × (p ≤ 17)
  unfolding least
  range_of p e = subst (λ (x : ℕ). (1 ≤ x) × (x ≤ 17)) (sym e) (least_in 16 1)

-- ---- how large what is left is

left_lt : (v t j : ℕ) → v < 10 ^ t → j ≤ t → v / 10 ^ j < 10 ^ (t - j)
left_lt v t j h k = (div-lt_iff_lt-mul (ten_pos j)).1 (lt_of_lt_of_le h (le_of_eq (ap (λ (x : ℕ). 10 ^ x) (sym e) ∙ pow-add 10 (t - j) j)))
  where
    e : t - j + j ≡ t
    e = omega arith

left_fits : (v t j n : ℕ) → v < 10 ^ t → j ≤ t → t - j ≤ n → v / 10 ^ j < 10 ^ n
left_fits v t j n h k m = lt_of_lt_of_le (left_lt v t j h k) (pow-le-pow_right (omega arith) m)

-- what a step asks of the numbers of a real
pub nearest_fits : (v low high t p : ℕ) → Ready v low high t → 1 ≤ p → p ≤ 17 → (0 < t - p) × (t - p ≤ 772) × (v / 10 ^ (t - p - 1) < 2 ^ 63)
nearest_fits v low high t p r h k = (omega (arith, r.many), omega (arith, r.few), lt_trans (left_fits v t (t - p - 1) 18 r.under (omega arith) (omega (arith, r.many))) (lit< tt))

pub back_fits : (v low high t p : ℕ) → Ready v low high t → 1 ≤ p → p ≤ 17 → (t - p ≤ 772) × (low / 10 ^ (t - p) < 2 ^ 64) × (high / 10 ^ (t - p) < 2 ^ 64)
back_fits v low high t p r h k = (
  omega (arith, r.few),
  lt_trans (left_fits low (t + 1) (t - p) 18 r.under_low (omega arith) (omega (arith, r.many))) (lit< tt),
  lt_trans (left_fits high (t + 1) (t - p) 18 r.under_high (omega arith) (omega (arith, r.many))) (lit< tt),
)

pub near_most : (v t p : ℕ) → v < 10 ^ t → p ≤ t → p ≤ 17 → near v (t - p) ≤ 10 ^ 17
unfolding near
near_most v t p h k l = le_trans (nearest-le (v / 10 ^ (t - p)) (compare (v % 10 ^ (t - p) * 2) (10 ^ (t - p)))) (left_fits v t (t - p) 17 h (omega arith) (omega arith))

-- ---- how many digits there are

module _ (n : ℕ) where
  places_step : (t : ℕ) (b : Bool) → ltb n (10 ^ t) ≡ b → places_to (suc t) n ≡ cond b (places_to t n) (suc t)
  unfolding places_to
  places_step t b e = ap (λ (x : Bool). cond x (places_to t n) (suc t)) e

  pub places_most : (t : ℕ) → places_to t n ≤ t
  unfolding places_to
  places_most zero = le_refl 0
  places_most (suc t) = go (ltb n (10 ^ t)) refl (places_most t)
    where
      go : (b : Bool) → ltb n (10 ^ t) ≡ b → places_to t n ≤ t → places_to (suc t) n ≤ suc t
      go true e h = rw (places_step t true e) (omega arith)
      go false e h = rw (places_step t false e) (le_refl (suc t))

  pub places_under : (t : ℕ) → n < 10 ^ t → n < 10 ^ places_to t n
  unfolding places_to
  places_under zero h = h
  places_under (suc t) h = go (places_under t) (ltb n (10 ^ t)) refl
    where
      go : (n < 10 ^ t → n < 10 ^ places_to t n) → (b : Bool) → ltb n (10 ^ t) ≡ b → n < 10 ^ places_to (suc t) n
      go ih true e = rw (places_step t true e) (ih (ltb-true n (10 ^ t) e))
      go ih false e = rw (places_step t false e) h

  pub places_least : (t k : ℕ) → 10 ^ k ≤ n → k < t → k < places_to t n
  unfolding places_to
  places_least zero k h l = absurd (omega arith)
  places_least (suc t) k h l = go (places_least t k h) (ltb n (10 ^ t)) refl
    where
      less : n < 10 ^ t → k < t
      less q = lt_of_not-le (λ (g : t ≤ k). absurd (not-le_of_lt (lt_of_lt_of_le q (pow-le-pow_right (omega arith) g)) h))

      go : (k < t → k < places_to t n) → (b : Bool) → ltb n (10 ^ t) ≡ b → k < places_to (suc t) n
      go ih true e = rw (places_step t true e) (ih (less (ltb-true n (10 ^ t) e)))
      go ih false e = rw (places_step t false e) l

  pub places_few : (t k : ℕ) → n < 10 ^ k → places_to t n ≤ k
  unfolding places_to
  places_few zero k h = omega arith
  places_few (suc t) k h = go (places_few t k h) (ltb n (10 ^ t)) refl
    where
      go : places_to t n ≤ k → (b : Bool) → ltb n (10 ^ t) ≡ b → places_to (suc t) n ≤ k
      go ih true e = rw (places_step t true e) ih
      go ih false e = rw (places_step t false e) (lt_of_not-le (λ (g : k ≤ t). absurd (not-le_of_lt (lt_of_lt_of_le h (pow-le-pow_right (omega arith) g)) (ltb-false n (10 ^ t) e))))

  pub places_zero : (t : ℕ) → n ≡ 0 → places_to t n ≡ 0
  unfolding places_to
  places_zero zero h = refl
  places_zero (suc t) h = places_step t true (lt-ltb n (10 ^ t) (omega (arith, ten_pos t))) ∙ places_zero t h

-- one digit less
-- by the greatest power of ten within
pub places_log : (c n : ℕ) → 10 ^ n ≤ c → c < 10 * 10 ^ n → n < 20 → n + 1 ≡ places_to 20 c
places_log c n h l k =
    let few : places_to 20 c ≤ suc n = places_few c 20 (suc n) (subst (λ (x : ℕ). c < x) (sym (pow-succ' 10 n)) l) in
    let least = places_least c 20 n h k in
    omega arith

pub width_few : (c k : ℕ) → 0 < k → c < 10 ^ k → width c ≤ k
unfolding width
width_few c k p h = max-le p (places_few c 20 k h)

-- before the point and behind it there are at most 23 digits
pub point_fits : (c f : ℕ) → c < 10 ^ 18 → f ≤ 22 → width (c / 10 ^ f) + f ≤ 23
point_fits c f h l = go (leb f 18) refl
  where
    add : (w : ℕ) → w ≤ 23 - f → w + f ≤ 23
    add w k = omega arith

    go : (b : Bool) → leb f 18 ≡ b → width (c / 10 ^ f) + f ≤ 23
    go true e = add (width (c / 10 ^ f)) (width_few (c / 10 ^ f) (23 - f) (omega arith) (left_fits c 18 f (23 - f) h (leb-true f 18 e) (omega arith)))
    go false e = add (width (c / 10 ^ f)) (width_few (c / 10 ^ f) (23 - f) (omega arith) (subst (λ (x : ℕ). x < 10 ^ (23 - f)) (sym (div-eq_of_lt (lt_of_lt_of_le h (pow-le-pow_right (omega arith) (le_of_lt (leb-false f 18 e)))))) (ten_pos (23 - f))))
