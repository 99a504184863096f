-- Numbers as lists of digits: the value of a part, and dividing by a power of ten as cutting the list.
-- Assumes nothing.
use mathlib.Core.Path.{◌≡◌, refl, sym, ap, ◌∙◌, subst}
use mathlib.Core.List.{List, [], ◌∷◌, ◌++◌}
use mathlib.Core.Bool.{Bool, true, false, cond, ◌&&◌}
use Prim.Native.Nat.{ℕ, zero, suc, ◌+◌, ◌*◌, ◌-◌, ◌/◌, ◌%◌, ◌^◌, ◌≤◌, ◌<◌}
use native.Mathlib.Nat.{pow-suc, pow-succ', mul_assoc, mul-add, add-mul, zero-mul, mul-zero, mul-suc, one-mul, add-zero, add-suc, zero-add, one-le-pow, add-mul-div_left, add-mul-mod_self_left, div-eq_of_lt, mod-eq_of_lt, mod-lt, mod-add-div, mul-le-mul, le-mul_of_pos_right, pos_of_ne-zero, le_refl, le_trans, lt_irrefl, lt_of_le_of_lt, mul-le-mul_left, pow-le-pow_right}
use native.Mathlib.Omega.{arith}
use lib.ListN.{length, take, drop, get_or, set, length-set, take-append-drop, replicate}
use lib.Seq.{take-suc, drop-cons, take-suc-set, get_or-set_same, get_or-set_other, length-take-le, take-length, drop-length}
use lib.Dec.{eqb}
use borrow.Author.Tests.{lt-ltb, le-ltb, eq-eqb, ne_eqb, eqb-true, eqb-false}
use Rattle.std.specs.List.{list_all}
use Rattle.figures.specs.Digits.{value, Digits, places_to}

pub ten_pos : (n : ℕ) → 0 < 10 ^ n
ten_pos n = one-le-pow n 10 (omega arith)

value_append : (l m : List ℕ) → value (l ++ m) ≡ value l + 10 ^ length l * value m
unfolding value
value_append [] m = omega arith
value_append (d ∷ l) m =
    let h = value_append l m in
    let p : 10 ^ suc (length l) * value m ≡ 10 * (10 ^ length l * value m) = ap (λ (x : ℕ). x * value m) (pow-succ' 10 (length l)) ∙ mul_assoc 10 (10 ^ length l) (value m) in
    omega arith

value_one : (d : ℕ) → value (d ∷ []) ≡ d
unfolding value
value_one d = omega arith

-- one digit more, above and below
pub value_more : (l : List ℕ) (i : ℕ) → i < length l → value (take (suc i) l) ≡ value (take i l) + 10 ^ i * get_or l i 0
value_more l i h =
    ap value (take-suc l i 0 h) ∙ value_append (take i l) (get_or l i 0 ∷ [])
    ∙ ap (λ (x : ℕ). value (take i l) + 10 ^ length (take i l) * x) (value_one (get_or l i 0))
    ∙ ap (λ (x : ℕ). value (take i l) + 10 ^ x * get_or l i 0) (length-take-le i l (omega arith))

value_lower : (l : List ℕ) (i : ℕ) → i < length l → value (drop i l) ≡ get_or l i 0 + 10 * value (drop (suc i) l)
unfolding value
value_lower l i h = ap value (drop-cons l i 0 h)

value_split : (l : List ℕ) (j : ℕ) → j ≤ length l → value l ≡ value (take j l) + 10 ^ j * value (drop j l)
value_split l j h =
    ap value (sym (take-append-drop j l)) ∙ value_append (take j l) (drop j l)
    ∙ ap (λ (x : ℕ). value (take j l) + 10 ^ x * value (drop j l)) (length-take-le j l h)

digits_tail : (d : ℕ) (l : List ℕ) → Digits (d ∷ l) → Digits l
digits_tail d l h i = h (suc i)

value_lt : (l : List ℕ) → Digits l → value l < 10 ^ length l
unfolding value
value_lt [] h = omega arith
value_lt (d ∷ l) h =
    let a : d < 10 = h 0 in
    let b = value_lt l (digits_tail d l h) in
    omega (arith, pow-succ' 10 (length l))

take_le : (l : List ℕ) (j i : ℕ) → get_or (take j l) i 0 ≤ get_or l i 0
take_le l zero i = omega arith
take_le [] (suc j) i = omega arith
take_le (d ∷ l) (suc j) zero = omega arith
take_le (d ∷ l) (suc j) (suc i) = take_le l j i

digits_take : (l : List ℕ) (j : ℕ) → Digits l → Digits (take j l)
digits_take l j h i = omega (arith, take_le l j i, h i)

take_lt : (l : List ℕ) (j : ℕ) → j ≤ length l → Digits l → value (take j l) < 10 ^ j
take_lt l j k h = subst (λ (x : ℕ). value (take j l) < 10 ^ x) (length-take-le j l k) (value_lt (take j l) (digits_take l j h))

-- without the j lowest digits, and those alone
pub value_div : (l : List ℕ) (j : ℕ) → j ≤ length l → Digits l → value l / 10 ^ j ≡ value (drop j l)
value_div l j k h =
    ap (λ (x : ℕ). x / 10 ^ j) (value_split l j k) ∙ add-mul-div_left (value (take j l)) (value (drop j l)) (ten_pos j)
    ∙ ap (λ (x : ℕ). x + value (drop j l)) (div-eq_of_lt (take_lt l j k h)) ∙ zero-add (value (drop j l))

pub value_mod : (l : List ℕ) (j : ℕ) → j ≤ length l → Digits l → value l % 10 ^ j ≡ value (take j l)
value_mod l j k h =
    ap (λ (x : ℕ). x % 10 ^ j) (value_split l j k) ∙ add-mul-mod_self_left (value (take j l)) (10 ^ j) (value (drop j l)) ∙ mod-eq_of_lt (take_lt l j k h)

-- ---- one factor, from the lowest digit up: what is carried stands for the digits to come

pub record Worked (a₀ : List ℕ) (k c : ℕ) (a : List ℕ) (carry i : ℕ) : Type 0 where
  pub size : length a ≡ length a₀
  pub digits : Digits a
  pub small : carry ≤ c + 9
  pub same : (n : ℕ) → i ≤ n → get_or a n 0 ≡ get_or a₀ n 0
  pub sum : value (take i a) + 10 ^ i * carry ≡ value (take i a₀) * k + c

pub worked_none : (a : List ℕ) (k c : ℕ) → Digits a → Worked a k c a c 0
unfolding value
worked_none a k c h = record { size = refl; digits = h; small = omega arith; same = λ n l. refl; sum = omega (arith, zero-mul k, one-mul c) }

pub product : (x k : ℕ) → x < 10 → k < 10 → x * k ≤ 81
product x k h l =
    let a : x ≤ 9 = omega arith in
    let b : k ≤ 9 = omega arith in
    mul-le-mul a b

digits_set : (l : List ℕ) (i d : ℕ) → i < length l → d < 10 → Digits l → Digits (set l i d)
digits_set l i d h k w n = go (eqb n i) refl
  where
    go : (b : Bool) → eqb n i ≡ b → get_or (set l i d) n 0 < 10
    go true e = rw (eqb-true n i e, get_or-set_same) k
    go false e = rw (get_or-set_other l i n d 0 (eqb-false n i e)) (w n)

pub worked_more : (a₀ : List ℕ) (k c : ℕ) (a : List ℕ) (carry i : ℕ) → k < 10 → i < length a₀ → Worked a₀ k c a carry i
    → Worked a₀ k c (set a i ((get_or a i 0 * k + carry) % 10)) ((get_or a i 0 * k + carry) / 10) (suc i)
worked_more a₀ k c a carry i kh ih w =
    let x = get_or a i 0 in
    let d = x * k + carry in
    let il : i < length a = omega (arith, w.size) in
    let e1 : value (take (suc i) (set a i (d % 10))) ≡ value (take i a) + 10 ^ i * (d % 10) =
    ap value (take-suc-set a i (d % 10) il) ∙ value_append (take i a) (d % 10 ∷ []) ∙ ap (λ (y : ℕ). value (take i a) + 10 ^ length (take i a) * y) (value_one (d % 10))
    ∙ ap (λ (y : ℕ). value (take i a) + 10 ^ y * (d % 10)) (length-take-le i a (omega arith)) in
    let e2 : value (take (suc i) a₀) * k ≡ value (take i a₀) * k + 10 ^ i * (x * k) =
    ap (λ (y : ℕ). y * k) (value_more a₀ i ih ∙ ap (λ (y : ℕ). value (take i a₀) + 10 ^ i * y) (sym (w.same i (le_refl i)))) ∙ add-mul (value (take i a₀)) (10 ^ i * x) k ∙ ap (λ (y : ℕ). value (take i a₀) * k + y) (mul_assoc (10 ^ i) x k) in
    let e3 : 10 ^ i * (d % 10) + 10 ^ suc i * (d / 10) ≡ 10 ^ i * (x * k) + 10 ^ i * carry =
    ap (λ (y : ℕ). 10 ^ i * (d % 10) + y) (ap (λ (y : ℕ). y * (d / 10)) (pow-suc 10 i) ∙ mul_assoc (10 ^ i) 10 (d / 10)) ∙ sym (mul-add (10 ^ i) (d % 10) (10 * (d / 10))) ∙ ap (λ (y : ℕ). 10 ^ i * y) (mod-add-div d 10) ∙ mul-add (10 ^ i) (x * k) carry in
    record {
      size = length-set a i (d % 10) ∙ w.size;
      digits = digits_set a i (d % 10) il (mod-lt d (omega arith)) w.digits;
      small = omega (arith, product x k (w.digits i) kh, w.small);
      same = λ n l. get_or-set_other a i n (d % 10) 0 (λ (e : n ≡ i). lt_irrefl n (omega arith)) ∙ w.same n (omega arith);
      sum = omega (arith, e1, e2, e3, w.sum);
    }

pub worked_all : (a₀ : List ℕ) (k c : ℕ) (a : List ℕ) (carry n : ℕ) → length a₀ ≡ n → value a₀ * k + c < 10 ^ n → Worked a₀ k c a carry n → value a ≡ value a₀ * k + c
worked_all a₀ k c a carry n z h w =
    let e : value (take n a) ≡ value a = ap (λ (y : ℕ). value (take y a)) (sym (w.size ∙ z)) ∙ ap value (take-length a) in
    let f : value (take n a₀) ≡ value a₀ = ap (λ (y : ℕ). value (take y a₀)) (sym z) ∙ ap value (take-length a₀) in
    none carry (ap (λ (y : ℕ). y + 10 ^ n * carry) (sym e) ∙ w.sum ∙ ap (λ (y : ℕ). y * k + c) f)
  where
    none : (z : ℕ) → value a + 10 ^ n * z ≡ value a₀ * k + c → value a ≡ value a₀ * k + c
    none zero s = omega (arith, s, mul-zero (10 ^ n))
    none (suc z) s = absurd (lt_irrefl 0 (omega (arith, s, h, mul-suc (10 ^ n) z)))

-- ---- the digits from the highest down

fall : (l : List ℕ) (i : ℕ) → value (drop (suc i) l) ≤ value (drop i l)
unfolding value
fall [] zero = omega arith
fall [] (suc i) = omega arith
fall (d ∷ l) zero = omega arith
fall (d ∷ l) (suc i) = fall l i

falls : (l : List ℕ) (j n : ℕ) → value (drop (j + n) l) ≤ value (drop j l)
falls l j zero = rw (add-zero j) (le_refl (value (drop j l)))
falls l j (suc n) = rw (add-suc j n) (le_trans (fall l (j + n)) (falls l j n))

-- one digit more, at i - 1
pub head_step : (l : List ℕ) (i : ℕ) → i ≤ length l → 0 < i → value (drop i l) * 10 + get_or l (i - 1) 0 ≡ value (drop (i - 1) l)
head_step l i h p =
    let e : suc (i - 1) ≡ i = omega arith in
    omega (arith, value_lower l (i - 1) (omega arith), ap (λ (n : ℕ). value (drop n l)) e)

pub head_fits : (l : List ℕ) (j i : ℕ) → i ≤ length l → j < i → Digits l → value (drop i l) * 10 + get_or l (i - 1) 0 ≤ value l / 10 ^ j
head_fits l j i h k w =
    let e : j + (i - 1 - j) ≡ i - 1 = omega arith in
    omega (arith, head_step l i h (omega arith), falls l j (i - 1 - j), ap (λ (n : ℕ). value (drop n l)) e, value_div l j (omega arith) w)

pub none_left : (l : List ℕ) (n : ℕ) → length l ≡ n → value (drop n l) ≡ 0
unfolding value
none_left l n e = ap (λ (k : ℕ). value (drop k l)) (sym e) ∙ ap value (drop-length l)

pub places_found : (t : ℕ) (l : List ℕ) → suc t ≤ length l → (get_or l t 0 ≡ 0 → ⊥) → places_to (suc t) (value l) ≡ suc t
unfolding places_to
places_found t l h k =
    let a = value_split l t (omega arith) in
    let b = value_lower l t h in
    let c : 10 ^ t ≤ 10 ^ t * value (drop t l) = le-mul_of_pos_right (10 ^ t) (omega (arith, b, pos_of_ne-zero k)) in
    ap (λ (b : Bool). cond b (places_to t (value l)) (suc t)) (le-ltb (value l) (10 ^ t) (omega (arith, a, c)))

pub places_less : (t : ℕ) (l : List ℕ) → suc t ≤ length l → Digits l → value (drop (suc t) l) ≡ 0 → get_or l t 0 ≡ 0
    → (value (drop t l) ≡ 0) × (places_to (suc t) (value l) ≡ places_to t (value l))
unfolding places_to
places_less t l h w z e =
    let b : value (drop t l) ≡ 0 = omega (arith, value_lower l t h) in
    let a : value l ≡ value (take t l) = value_split l t (omega arith) ∙ ap (λ (y : ℕ). value (take t l) + 10 ^ t * y) b ∙ ap (λ (y : ℕ). value (take t l) + y) (mul-zero (10 ^ t)) ∙ add-zero (value (take t l)) in
    (b, ap (λ (b : Bool). cond b (places_to t (value l)) (suc t)) (lt-ltb (value l) (10 ^ t) (omega (arith, a, take_lt l t (omega arith) w))))

-- ---- the lowest digits

ten_zero : (d v : ℕ) → d ≡ 0 → eqb v 0 ≡ eqb (d + 10 * v) 0
ten_zero d zero e = sym (eq-eqb (d + 10 * 0) 0 (omega arith))
ten_zero d (suc v) e = ne_eqb (suc v) 0 (λ (e : suc v ≡ 0). absurd (omega arith)) ∙ sym (ne_eqb (d + 10 * suc v) 0 (λ (e : d + 10 * suc v ≡ 0). absurd (omega arith)))

-- all are 0 exactly where the number is
pub all_zero : (l : List ℕ) → list_all (λ d. eqb d 0) l ≡ eqb (value l) 0
unfolding value
all_zero [] = refl
all_zero (zero ∷ l) = all_zero l ∙ ten_zero 0 (value l) refl
all_zero (suc d ∷ l) = ap (λ (b : Bool). b && list_all (λ d. eqb d 0) l) (ne_eqb (suc d) 0 (λ (e : suc d ≡ 0). absurd (omega arith))) ∙ sym (ne_eqb (suc d + 10 * value l) 0 (λ (e : suc d + 10 * value l ≡ 0). absurd (omega arith)))

-- ---- no digit but 0

pub value_zeros : (n : ℕ) → value (replicate n 0) ≡ 0
unfolding value
value_zeros zero = refl
value_zeros (suc n) = omega (arith, value_zeros n)

pub digits_zeros : (n : ℕ) → Digits (replicate n 0)
digits_zeros zero i = omega arith
digits_zeros (suc n) zero = omega arith
digits_zeros (suc n) (suc i) = digits_zeros n i

-- ---- factors one by one

pub factor_fits : (v k i n w most : ℕ) → 0 < k → i < n → v * k ^ n < most → w ≡ v * k ^ i → w * k + 0 < most
factor_fits v k i n w most p h l e =
    let a : v * k ^ suc i ≤ v * k ^ n = mul-le-mul_left v (pow-le-pow_right p h) in
    let b : v * k ^ suc i ≡ w * k + 0 = ap (λ (x : ℕ). v * x) (pow-suc k i) ∙ sym (mul_assoc v (k ^ i) k) ∙ ap (λ (x : ℕ). x * k) (sym e) ∙ sym (add-zero (w * k)) in
    lt_of_le_of_lt (subst (λ (x : ℕ). x ≤ v * k ^ n) b a) l

pub part_fits : (v w most : ℕ) → 0 < w → v * w < most → v < most
part_fits v w most p h = lt_of_le_of_lt (le-mul_of_pos_right v p) h

pub start_is : (z n : ℕ) → z ≡ 0 → z * 1 + n ≡ n
start_is z n e = omega arith
