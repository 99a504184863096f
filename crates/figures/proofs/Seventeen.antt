-- What is written gives the real back: 17 digits always do, so the fewest that are looked for do.
-- Assumes nothing.
use mathlib.Core.Path.{◌≡◌, refl, sym, ap, ◌∙◌, subst}
use mathlib.Core.Logic.{◌⊎◌, inl, inr}
use mathlib.Core.Bool.{Bool, true, false, cond, true≢false}
use Prim.Native.Nat.{ℕ, zero, suc, ◌+◌, ◌*◌, ◌-◌, ◌/◌, ◌%◌, ◌^◌, ◌≤◌, ◌<◌}
use native.Mathlib.Nat.{le_refl, le_trans, le_of_eq, le_of_lt, lt_of_lt_of_le, lt_of_le_of_lt, lt_irrefl, one-mul, add-mul, mul_assoc, mul-le-mul_right, pow-succ', pos_of_ne-zero, add-zero, mul-pos, one-le-pow, le-add_right, zero-lt-suc}
use native.Mathlib.Numerals.{add-one}
use native.Mathlib.Omega.{arith}
use lib.Pow.{pow-add}
use lib.Dec.{ltb, eqb, lit<, lit≤}
use lib.Ieee.{Float, binary64, odd, of_fields, round}
use borrow.Author.Tests.{ltb-true, ltb-false, eqb-true, eqb-false, ne_eqb}
use Rattle.figures.specs.Digits.{places_to}
use Rattle.figures.specs.Fewest.{scaled, lowest, beyond, between, near, least_from, least, trimmed, cut, decimal_of, whole_of, place_of, under_of, figures_of, of_digits, Finite, Small}
use Rattle.figures.specs.declared.fewest.Decimal.{Decimal}
use Rattle.figures.proofs.Spelling.{ten_pos}
use Rattle.figures.proofs.Rounding.{range_of, near_most}
use Rattle.figures.proofs.Sizes.{many, ready, trimmed_small, zero_is, some_is, low_whole, high_whole, low_place, high_place, half_under, first_under, whole_under}
use Rattle.figures.proofs.Reading.{Lower, closest_near, reads_back, from_inside, read_between}

-- the highest digit is not 0
places_reached : (t n : ℕ) → 0 < n → 10 ^ (places_to t n - 1) ≤ n
unfolding places_to
places_reached zero n h = h
places_reached (suc t) n h = go (ltb n (10 ^ t)) refl (places_reached t n h)
  where
    back : suc t - 1 ≡ t
    back = omega arith

    go : (b : Bool) → ltb n (10 ^ t) ≡ b → 10 ^ (places_to t n - 1) ≤ n → 10 ^ (cond b (places_to t n) (suc t) - 1) ≤ n
    go true e ih = ih
    go false e ih = subst (λ (x : ℕ). 10 ^ x ≤ n) (sym back) (ltb-false n (10 ^ t) e)

-- ---- a 0 taken off changes no value

module _ (c up down : ℕ) where
  abbrev shorter : Decimal
  shorter = record { figures = c / 10; up = up + 1; down = down }

  abbrev whole_one : Decimal
  whole_one = record { figures = c; up = up; down = down }

  abbrev Worth : Decimal → Type 0
  Worth d = (d.figures * 10 ^ d.up ≡ c * 10 ^ up) × (d.down ≡ down)

  trimmed_value : Worth (trimmed c up down)
  unfolding trimmed
  trimmed_value = go (eqb (c % 10) 0) refl
    where
      tens : c % 10 ≡ 0 → c / 10 * 10 ≡ c
      tens e = omega arith

      go : (b : Bool) → eqb (c % 10) 0 ≡ b → Worth (cond b shorter whole_one)
      go true e = (ap (λ (z : ℕ). c / 10 * 10 ^ z) (add-one up) ∙ ap (λ (z : ℕ). c / 10 * z) (pow-succ' 10 up) ∙ sym (mul_assoc (c / 10) 10 (10 ^ up)) ∙ ap (λ (z : ℕ). z * 10 ^ up) (tens (eqb-true (c % 10) 0 e)), refl)
      go false e = (refl, refl)

-- ---- 17 digits

linear : (y c : ℕ) → scaled y c ≡ c * scaled y 1
unfolding scaled
linear y c =
    mul_assoc c (2 ^ (y - 1080)) (5 ^ (1080 - y)) ∙ ap (λ (z : ℕ). c * (z * 5 ^ (1080 - y))) (sym (one-mul (2 ^ (y - 1080))))

unit_pos : (y : ℕ) → 0 < scaled y 1
unfolding scaled
unit_pos y = mul-pos (mul-pos (lit< tt) (one-le-pow (y - 1080) 2 (lit< tt))) (one-le-pow (1080 - y) 5 (lit< tt))

-- x is at most half of g from v = 32 m w, and g is less than twice as far as the neighbours' half ways are
narrow : (m under w g x low high : ℕ) → 0 < m → under ≤ 16 → low ≡ (32 * m - under) * w → high ≡ (32 * m + 16) * w → g < 2 * under * w
    → x * 2 ≤ 32 * m * w * 2 + g → 32 * m * w * 2 ≤ x * 2 + g → (low < x) × (x < high)
narrow m under w g x low high some close el eh h a b =
    let e : 32 * m - under + under ≡ 32 * m = omega arith in
    let l : (32 * m - under) * w + under * w ≡ 32 * m * w = sym (add-mul (32 * m - under) under w) ∙ ap (λ (z : ℕ). z * w) e in
    let u : (32 * m + 16) * w ≡ 32 * m * w + 16 * w = add-mul (32 * m) 16 w in
    let c : under * w ≤ 16 * w = mul-le-mul_right w close in
    let d : 2 * under * w ≡ 2 * (under * w) = mul_assoc 2 under w in
    (omega (arith, l, d, el), omega (arith, u, c, d, eh))

room : (m under k w g : ℕ) → m < 2 ^ 53 → 0 < w → Lower m under k → g * 10 ^ 16 ≤ 32 * m * w → g < 2 * under * w
room m under k w g few p (inl e) h =
    let a : m * w ≤ 2 ^ 53 * w = mul-le-mul_right w (le_of_lt few) in
    let b : 32 * m * w ≡ 32 * (m * w) = mul_assoc 32 m w in
    subst (λ (z : ℕ). g < 2 * z * w) (sym e.0) (omega arith)
room m under k w g few p (inr e) h =
    let b : 32 * m * w ≡ 32 * (2 ^ 52) * w = ap (λ (z : ℕ). 32 * z * w) e.1 in
    subst (λ (z : ℕ). g < 2 * z * w) (sym e.0) (omega arith)

module _ (m under k : ℕ) (f : Finite m under (suc k)) (l : Lower m under k) where
  abbrev v : ℕ
  v = scaled (suc k) (32 * m)

  abbrev t : ℕ
  t = places_to 772 (scaled (suc k) (32 * m))

  abbrev gives : ℕ → Bool
  gives p = between (lowest m under (suc k)) (beyond m (suc k)) (near v (t - p) * 10 ^ (t - p))

  fine : 10 ^ (t - 17) * 10 ^ 16 ≤ v
  fine =
      let r = ready m under (suc k) f in
      let e : t - 17 + 16 ≡ t - 1 = omega (arith, r.many) in
      le_trans (le_of_eq (sym (pow-add 10 (t - 17) 16) ∙ ap (λ (z : ℕ). 10 ^ z) e)) (places_reached 772 v (lt_of_lt_of_le (ten_pos 17) (many m under (suc k) f)))

  seventeen : gives 17 ≡ true
  unfolding near
  seventeen =
      let w = scaled (suc k) 1 in
      let g = 10 ^ (t - 17) in
      let x = near v (t - 17) * 10 ^ (t - 17) in
      let e : v ≡ 32 * m * scaled (suc k) 1 = linear (suc k) (32 * m) in
      let c = closest_near v (10 ^ (t - 17)) (ten_pos (t - 17)) in
      let i = narrow m under w g x (scaled (suc k) (32 * m - under)) (scaled (suc k) (32 * m + 16)) f.some f.near (linear (suc k) (32 * m - under)) (linear (suc k) (32 * m + 16))
      (room m under k w g f.few (unit_pos (suc k)) l (subst (λ (z : ℕ). g * 10 ^ 16 ≤ z) e fine)) (subst (λ (z : ℕ). x * 2 ≤ z * 2 + g) e c.0) (subst (λ (z : ℕ). z * 2 ≤ x * 2 + g) e c.1) in
      from_inside m under (suc k) x (omega (arith, i.0), omega (arith, i.1))

  found : (n p : ℕ) → gives (p + n) ≡ true → gives (least_from v (lowest m under (suc k)) (beyond m (suc k)) t n p) ≡ true
  unfolding least_from
  found zero p h = subst (λ (z : ℕ). gives z ≡ true) (add-zero p) h
  found (suc n) p h = go (gives p) refl (found n (suc p) (subst (λ (z : ℕ). gives z ≡ true) (shift p n) h))
    where
      shift : (p n : ℕ) → p + suc n ≡ suc p + n
      shift p n = omega arith

      go : (b : Bool) → gives p ≡ b → gives (least_from v (lowest m under (suc k)) (beyond m (suc k)) t n (suc p)) ≡ true
          → gives (cond b p (least_from v (lowest m under (suc k)) (beyond m (suc k)) t n (suc p))) ≡ true
      go true e ih = e
      go false e ih = ih

  normal : (2 ^ 52 ≤ m) ⊎ (suc k ≡ 1) → (2 ^ 52 ≤ m) ⊎ (k ≡ 0)
  normal (inl h) = inl h
  normal (inr h) = inr (omega arith)

  lower : Lower m under k → (m ≡ 2 ^ 52 → k ≡ 0) ⊎ (under ≡ 8)
  lower (inl h) = inl h.1
  lower (inr h) = inr h.0

  pub decimal_back : (s : Bool) → round binary64 s ((decimal_of m under (suc k)).figures * 10 ^ (decimal_of m under (suc k)).up) (10 ^ (decimal_of m under (suc k)).down) ≡ odd 53 s m k 1074
  unfolding decimal_of cut least
  decimal_back s =
      let p = least_from v (lowest m under (suc k)) (beyond m (suc k)) t 16 1 in
      let d = trimmed (near v (t - p)) (t - p) (1080 - suc k) in
      let e = trimmed_value (near v (t - p)) (t - p) (1080 - suc k) in
      ap (λ (z : ℕ). round binary64 s z (10 ^ d.down)) e.0 ∙ ap (λ (z : ℕ). round binary64 s (near v (t - p) * 10 ^ (t - p)) (10 ^ z)) e.1
      ∙ reads_back s m under k (near v (t - p) * 10 ^ (t - p)) f.some f.few (less f.most) (normal f.normal) f.near (lower l) (found 16 1 seventeen)
    where
      less : suc k ≤ 2046 → k ≤ 2045
      less h = omega arith

  earlier : (n p j : ℕ) → p ≤ j → j < least_from v (lowest m under (suc k)) (beyond m (suc k)) t n p → gives j ≡ false
  unfolding least_from
  earlier zero p j h i = absurd (lt_irrefl p (lt_of_le_of_lt h i))
  earlier (suc n) p j h i = go (earlier n (suc p) j) (gives p) refl (eqb p j) refl i
    where
      next : (p ≡ j → ⊥) → suc p ≤ j
      next e = omega (arith, e)

      go : (suc p ≤ j → j < least_from v (lowest m under (suc k)) (beyond m (suc k)) t n (suc p) → gives j ≡ false) → (b : Bool) → gives p ≡ b → (c : Bool) → eqb p j ≡ c → j < cond b p (least_from v (lowest m under (suc k)) (beyond m (suc k)) t n (suc p)) → gives j ≡ false
      go ih true e c g i = absurd (lt_irrefl p (lt_of_le_of_lt h i))
      go ih false e true g i = subst (λ (z : ℕ). gives z ≡ false) (eqb-true p j g) e
      go ih false e false g i = ih (next (eqb-false p j g)) i

  pub digits_few : (1 ≤ least v (lowest m under (suc k)) (beyond m (suc k)) t) × (least v (lowest m under (suc k)) (beyond m (suc k)) t ≤ 17)
  digits_few = range_of v (lowest m under (suc k)) (beyond m (suc k)) t (least v (lowest m under (suc k)) (beyond m (suc k)) t) refl

  pub decimal_small : Small (decimal_of m under (suc k))
  unfolding decimal_of cut
  decimal_small =
      let r = ready m under (suc k) f in
      let p = least v (lowest m under (suc k)) (beyond m (suc k)) t in
      let fits : p ≤ t = omega (arith, r.many, digits_few.1) in
      trimmed_small (near v (t - p)) (t - p) (1080 - suc k) (near_most v t p r.under fits digits_few.1) (omega (arith, r.few)) (omega arith)

  pub digits_chosen : (decimal_of m under (suc k)).figures * 10 ^ (decimal_of m under (suc k)).up ≡ of_digits m (suc k) (least v (lowest m under (suc k)) (beyond m (suc k)) t)
  unfolding decimal_of cut of_digits
  digits_chosen = (trimmed_value (near v (t - least v (lowest m under (suc k)) (beyond m (suc k)) t)) (t - least v (lowest m under (suc k)) (beyond m (suc k)) t) (1080 - suc k)).0

  pub no_fewer : (s : Bool) (j : ℕ) → 1 ≤ j → j < least v (lowest m under (suc k)) (beyond m (suc k)) t → round binary64 s (of_digits m (suc k) j) (10 ^ (1080 - suc k)) ≡ odd 53 s m k 1074 → ⊥
  unfolding least of_digits
  no_fewer s j h i e = true≢false (sym (read_between s m under k (near v (t - j) * 10 ^ (t - j)) f.some f.few (normal f.normal) f.near l e) ∙ earlier 16 1 j h i)

-- ---- the real with the exponent's field x and the digits' field t: what is written of it is read as that real

abbrev pub read : Bool → Decimal → Float
read s d = round binary64 s (d.figures * 10 ^ d.up) (10 ^ d.down)

fields : (s : Bool) (x t : ℕ) → suc x < 2047 → odd 53 s (2 ^ 52 + t) x 1074 ≡ of_fields binary64 s (suc x) t
unfolding of_fields
fields s x t h = rw (ne_eqb (suc x) 2047 (λ (e : suc x ≡ 2047). lt_irrefl 2047 (subst (λ (z : ℕ). z < 2047) e h)))

-- what the two fields of a finite real say of it, where it is not 0
record Parts (s : Bool) (x t : ℕ) : Type 0 where
  k : ℕ
  place : place_of x ≡ suc k
  some : whole_of x t ≡ 0 → ⊥
  finite : Finite (whole_of x t) (under_of x t) (suc k)
  lower : Lower (whole_of x t) (under_of x t) k
  real : odd 53 s (whole_of x t) k 1074 ≡ of_fields binary64 s x t

parts : (s : Bool) (x t : ℕ) → x < 2047 → t < 2 ^ 52 → 0 < x + t → Parts s x t
unfolding of_fields
parts s zero t h l p =
    let n : t ≡ 0 → ⊥ = λ (e : t ≡ 0). lt_irrefl 0 (omega arith) in
    record {
      k = 0;
      place = low_place 0 t refl;
      some = rw (low_whole 0 t refl) n;
      finite = rw (low_whole 0 t refl, whole_under 0 t n) (record { some = pos_of_ne-zero n; few = omega arith; near = le_refl 16; least = lit< tt; most = lit≤ tt; normal = inr refl });
      lower = rw (low_whole 0 t refl, whole_under 0 t n) (inl (refl, λ (e : t ≡ 2 ^ 52). refl));
      real = rw (low_whole 0 t refl) refl;
    }
parts s (suc k) t h l p = go (eqb t 0) refl (ltb 1 (suc k)) refl
  where
    not_zero : suc k ≡ 0 → ⊥
    not_zero e = lt_irrefl 0 (omega arith)

    most : suc k ≤ 2046
    most = omega arith

    full : 2 ^ 52 + t < 2 ^ 53
    full = omega arith

    large : 2 ^ 52 + t ≡ 0 → ⊥
    large e = absurd (lt_irrefl 0 (omega arith))

    over : (t ≡ 0 → ⊥) → 2 ^ 52 + t ≡ 2 ^ 52 → k ≡ 0
    over n e = absurd (n (omega arith))

    exact : t ≡ 0 → 2 ^ 52 + t ≡ 2 ^ 52
    exact e = omega arith

    above : 1 < suc k → 0 < k
    above e = omega arith

    least_one : suc k ≤ 1 → k ≡ 0
    least_one e = omega arith

    made : (u : ℕ) → under_of (suc k) t ≡ u → u ≤ 16 → Lower (2 ^ 52 + t) u k → Parts s (suc k) t
    made u e i j =
        record {
          k = k;
          place = high_place (suc k) t not_zero;
          some = rw (high_whole (suc k) t not_zero) large;
          finite = rw (high_whole (suc k) t not_zero, e) (record { some = lt_of_lt_of_le (lit< tt) (le-add_right (2 ^ 52) t); few = full; near = i; least = zero-lt-suc k; most = most; normal = inl (le-add_right (2 ^ 52) t) });
          lower = rw (high_whole (suc k) t not_zero, e) j;
          real = ap (λ (z : ℕ). odd 53 s z k 1074) (high_whole (suc k) t not_zero) ∙ fields s k t h;
        }

    go : (a : Bool) → eqb t 0 ≡ a → (b : Bool) → ltb 1 (suc k) ≡ b → Parts s (suc k) t
    go false a b c =
        let n = eqb-false t 0 a in
        made 16 (whole_under (suc k) t n) (le_refl 16) (inl (refl, over n))
    go true a false c =
        let e = ltb-false 1 (suc k) c in
        made 16 (first_under (suc k) t e) (le_refl 16) (inl (refl, λ (w : 2 ^ 52 + t ≡ 2 ^ 52). least_one e))
    go true a true c = made 8 (half_under (suc k) t (eqb-true t 0 a) (ltb-true 1 (suc k) c)) (lit≤ tt) (inr (refl, exact (eqb-true t 0 a), above (ltb-true 1 (suc k) c)))

pub figures_back : (s : Bool) (x t : ℕ) → x < 2047 → t < 2 ^ 52 → 0 < x + t → read s (figures_of x t) ≡ of_fields binary64 s x t
figures_back s x t h l p =
    let w = parts s x t h l p in
    ap (read s) (some_is x t w.some ∙ ap (decimal_of (whole_of x t) (under_of x t)) w.place) ∙ decimal_back (whole_of x t) (under_of x t) w.k w.finite w.lower s ∙ w.real

-- 0 is written as 0
pub zero_back : (s : Bool) (x t : ℕ) → x ≡ 0 → t ≡ 0 → read s (figures_of x t) ≡ of_fields binary64 s x t
unfolding of_fields odd round
zero_back s x t e f = ap (read s) (sym (zero_is x t e f)) ∙ sym (ap (λ (i : ℕ). of_fields binary64 s i t) e ∙ ap (λ (i : ℕ). of_fields binary64 s 0 i) f)

pub figures_small : (x t : ℕ) → x < 2047 → t < 2 ^ 52 → Small (figures_of x t)
figures_small x t h l = go (eqb (x + t) 0) refl
  where
    none_x : x + t ≡ 0 → x ≡ 0
    none_x e = omega arith

    none_t : x + t ≡ 0 → t ≡ 0
    none_t e = omega arith

    go : (b : Bool) → eqb (x + t) 0 ≡ b → Small (figures_of x t)
    go true e =
        let z = eqb-true (x + t) 0 e in
        subst Small (zero_is x t (none_x z) (none_t z)) (record { figures = lit< tt; up = lit< tt; down = lit< tt })
    go false e =
        let w = parts false x t h l (pos_of_ne-zero (eqb-false (x + t) 0 e)) in
        subst Small (sym (some_is x t w.some ∙ ap (decimal_of (whole_of x t) (under_of x t)) w.place)) (decimal_small (whole_of x t) (under_of x t) w.k w.finite w.lower)

-- at most 17 digits, and fewer are read as another real
pub record Fewest (s : Bool) (x t : ℕ) : Type 0 where
  pub digits : ℕ
  pub some : 1 ≤ digits
  pub few : digits ≤ 17
  pub chosen : (figures_of x t).figures * 10 ^ (figures_of x t).up ≡ of_digits (whole_of x t) (place_of x) digits
  pub no_less : (p : ℕ) → 1 ≤ p → p < digits → round binary64 s (of_digits (whole_of x t) (place_of x) p) (10 ^ (1080 - place_of x)) ≡ of_fields binary64 s x t → ⊥

pub fewest : (s : Bool) (x t : ℕ) → x < 2047 → t < 2 ^ 52 → 0 < x + t → Fewest s x t
fewest s x t h l p =
    let w = parts s x t h l p in
    let m = whole_of x t in
    let u = under_of x t in
    let e : figures_of x t ≡ decimal_of (whole_of x t) (under_of x t) (suc w.k) = some_is x t w.some ∙ ap (decimal_of (whole_of x t) (under_of x t)) w.place in
    let n = digits_few m u w.k w.finite w.lower in
    record {
      digits = least (scaled (suc w.k) (32 * m)) (lowest m u (suc w.k)) (beyond m (suc w.k)) (places_to 772 (scaled (suc w.k) (32 * m)));
      some = n.0;
      few = n.1;
      chosen = ap (λ (d : Decimal). d.figures * 10 ^ d.up) e ∙ digits_chosen m u w.k w.finite w.lower ∙ ap (λ (y : ℕ). of_digits m y (least (scaled (suc w.k) (32 * m)) (lowest m u (suc w.k)) (beyond m (suc w.k)) (places_to 772 (scaled (suc w.k) (32 * m))))) (sym w.place);
      no_less = λ (j : ℕ) a b r. no_fewer m u w.k w.finite w.lower s j a b (subst (λ (y : ℕ). round binary64 s (of_digits m y j) (10 ^ (1080 - y)) ≡ of_fields binary64 s x t) w.place r ∙ sym w.real);
    }
