-- What stands in a row: bytes put one run behind the other are their join, and the digits of a number are put from the last to the first.
-- Assumes nothing.
use mathlib.Core.Path.{◌≡◌, refl, sym, ap, ◌∙◌, subst}
use mathlib.Core.Bool.{Bool, true, false, cond}
use mathlib.Core.List.{List, [], ◌∷◌, ◌++◌, append_assoc}
use Prim.Native.Nat.{ℕ, zero, suc, ◌+◌, ◌*◌, ◌-◌, ◌/◌, ◌%◌, ◌^◌, ◌≤◌, ◌<◌}
use native.Mathlib.Nat.{zero-add, add_assoc, add-suc, le_refl, le_of_eq, le_trans, lt_of_lt_of_le, mul-lt-mul_of_pos_right, pow-le-pow_right}
use native.Mathlib.Numerals.{add-one}
use native.Mathlib.Omega.{arith}
use lib.ListN.{length, take, drop, set, length-append, length-set, take-append-drop}
use lib.Seq.{set_split, take_at, drop_at, drop-drop, length-take-le, drop-cons, get_or-set_same, drop-set-lt, take-set-le, take-take}
use lib.Pow.{pow-add}
use lib.Dec.{leb, lit<, lit≤}
use borrow.Author.Tests.{lt-ltb, le-ltb, le-leb, lt-leb, leb-false, eq-eqb, ne_eqb}
use Rattle.figures.specs.Digits.{places_to}
use Rattle.figures.specs.Fewest.{figures_of, Small}
use Rattle.figures.specs.Written.{numeral, width, pointed, power, plain, plainly, Plain, scientific, decimal_text, written, Puts, Row}
use Rattle.figures.specs.declared.fewest.Decimal.{Decimal}
use Rattle.figures.proofs.Spelling.{ten_pos}
use Rattle.figures.proofs.Rounding.{places_few, places_under}

pub numeral_length : (n c : ℕ) → length (numeral n c) ≡ n
unfolding numeral
numeral_length zero c = refl
numeral_length (suc n) c = length-append (numeral n (c / 10)) ((48 + c % 10) ∷ []) ∙ ap (λ (x : ℕ). x + 1) (numeral_length n (c / 10)) ∙ add-one n

pub puts_one : (l : List ℕ) (at b : ℕ) → at < length l → Puts l (set l at b) at (at + 1) (b ∷ [])
puts_one l at b h = record { size = length-set l at b; holds = set_split l at b h ∙ ap (λ (n : ℕ). take at l ++ (b ∷ drop n l)) (sym (add-one at)); behind = refl }

front : (l xs : List ℕ) (at : ℕ) → at ≤ length l → length (take at l ++ xs) ≡ at + length xs
front l xs at h = length-append (take at l) xs ∙ ap (λ (n : ℕ). n + length xs) (length-take-le at l h)

-- one run behind the other
pub puts_then : {old mid new xs ys : List ℕ} {at to end : ℕ} → Puts old mid at to xs → Puts mid new to end ys → to ≤ length old → Puts old new at end (xs ++ ys)
puts_then {old} {mid} {new} {xs} {ys} {at} {to} {end} p q h =
    let z = p.behind in
    let k : at ≤ length old = omega arith in
    let m : mid ≡ (take at old ++ xs) ++ drop to old = p.holds ∙ ap (λ (n : ℕ). take at old ++ (xs ++ drop n old)) (sym z) ∙ sym (append_assoc (take at old) xs (drop to old)) in
    let w : length (take at old ++ xs) ≡ to = front old xs at k ∙ sym z in
    let t : take to mid ≡ take at old ++ xs = ap (take to) m ∙ take_at (take at old ++ xs) (drop to old) to w in
    let d : drop (to + length ys) mid ≡ drop (to + length ys) old =
    sym (drop-drop (length ys) to mid) ∙ ap (drop (length ys)) (ap (drop to) m ∙ drop_at (take at old ++ xs) (drop to old) to w) ∙ drop-drop (length ys) to old in
    let n : to + length ys ≡ at + length (xs ++ ys) = ap (λ (y : ℕ). y + length ys) z ∙ add_assoc at (length xs) (length ys) ∙ ap (λ (y : ℕ). at + y) (sym (length-append xs ys)) in
    record {
      size = q.size ∙ p.size;
      holds =
          q.holds ∙ ap (λ (l : List ℕ). l ++ (ys ++ drop (to + length ys) mid)) t ∙ ap (λ (l : List ℕ). (take at old ++ xs) ++ (ys ++ l)) (d ∙ ap (λ (y : ℕ). drop y old) n)
          ∙ append_assoc (take at old) xs (ys ++ drop (at + length (xs ++ ys)) old) ∙ ap (λ (l : List ℕ). take at old ++ l) (sym (append_assoc xs ys (drop (at + length (xs ++ ys)) old)));
      behind = q.behind ∙ n;
    }

pub puts_as : {old new xs ys : List ℕ} {at to : ℕ} → xs ≡ ys → Puts old new at to xs → Puts old new at to ys
puts_as {old} {new} {at = at} {to = to} e p = subst (λ (l : List ℕ). Puts old new at to l) e p

-- ---- digits, from the last to the first: i are left

pub record Left (row₀ : List ℕ) (at n c : ℕ) (row : List ℕ) (rest i : ℕ) : Type 0 where
  pub fewer : i ≤ n
  pub size : length row ≡ length row₀
  pub before : take (at + i) row ≡ take (at + i) row₀
  pub behind : numeral i rest ++ drop (at + i) row ≡ numeral n c ++ drop (at + n) row₀

pub left_all : (row : List ℕ) (at n c : ℕ) → Left row at n c row c n
left_all row at n c = record { fewer = le_refl n; size = refl; before = refl; behind = refl }

pub left_less : (row₀ : List ℕ) (at n c : ℕ) (row : List ℕ) (rest i : ℕ) → at + n ≤ length row₀ → 0 < i → Left row₀ at n c row rest i
    → Left row₀ at n c (set row (at + (i - 1)) (48 + rest % 10)) (rest / 10) (i - 1)
unfolding numeral
left_less row₀ at n c row rest zero h p w = absurd (omega arith)
left_less row₀ at n c row rest (suc i) h p w =
    let e : suc i - 1 ≡ i = omega arith in
    subst (λ (y : ℕ). Left row₀ at n c (set row (at + y) (48 + rest % 10)) (rest / 10) y) (sym e) (
    record {
      fewer = omega (arith, w.fewer);
      size = length-set row (at + i) (48 + rest % 10) ∙ w.size;
      before = take-set-le (at + i) row (at + i) (48 + rest % 10) (le_refl (at + i)) ∙ sym (take-take (at + i) (at + suc i) row (omega arith)) ∙ ap (take (at + i)) w.before ∙ take-take (at + i) (at + suc i) row₀ (omega arith);
      behind = last ∙ w.behind;
    })
  where
    last : numeral i (rest / 10) ++ drop (at + i) (set row (at + i) (48 + rest % 10)) ≡ numeral (suc i) rest ++ drop (at + suc i) row
    last =
        let d = 48 + rest % 10 in
        let k : at + i < length row = omega (arith, w.fewer, w.size) in
        let m : drop (at + i) (set row (at + i) d) ≡ d ∷ drop (at + suc i) row =
        drop-cons (set row (at + i) d) (at + i) 0 (omega (arith, length-set row (at + i) d)) ∙ ap (λ (x : ℕ). x ∷ drop (suc (at + i)) (set row (at + i) d)) (get_or-set_same row (at + i) d 0 k)
        ∙ ap (λ (l : List ℕ). d ∷ l) (drop-set-lt (suc (at + i)) row (at + i) d (le_refl (suc (at + i))) ∙ ap (λ (y : ℕ). drop y row) (sym (add-suc at i))) in
        ap (λ (l : List ℕ). numeral i (rest / 10) ++ l) m ∙ sym (append_assoc (numeral i (rest / 10)) (d ∷ []) (drop (at + suc i) row))

pub left_none : (row₀ : List ℕ) (at n c : ℕ) (row : List ℕ) (rest i : ℕ) → i ≤ 0 → Left row₀ at n c row rest i → Puts row₀ row at (at + n) (numeral n c)
unfolding numeral
left_none row₀ at n c row rest i h w =
    let z : i ≡ 0 = omega arith in
    let e : at + i ≡ at = omega arith in
    let b : take at row ≡ take at row₀ = ap (λ (y : ℕ). take y row) (sym e) ∙ w.before ∙ ap (λ (y : ℕ). take y row₀) e in
    let d : drop at row ≡ numeral n c ++ drop (at + n) row₀ = ap (λ (y : ℕ). numeral 0 rest ++ drop y row) (sym e) ∙ ap (λ (y : ℕ). numeral y rest ++ drop (at + i) row) (sym z) ∙ w.behind in
    record {
      size = w.size;
      holds = sym (take-append-drop at row) ∙ ap (λ (l : List ℕ). l ++ drop at row) b ∙ ap (λ (l : List ℕ). take at row₀ ++ l) (d ∙ ap (λ (y : ℕ). numeral n c ++ drop (at + y) row₀) (sym (numeral_length n c)));
      behind = ap (λ (y : ℕ). at + y) (sym (numeral_length n c));
    }

-- ---- the forms, part by part

pub pointed_is : (c f w n : ℕ) → w ≡ c / 10 ^ f → n ≡ width w → numeral n w ++ (46 ∷ numeral f c) ≡ pointed c f
unfolding pointed
pointed_is c f w n e h = rw (h, e)

pub power_up : (a b w : ℕ) → b ≤ a → w ≡ width (a - b) → 101 ∷ numeral w (a - b) ≡ power a b
unfolding power
power_up a b w h e = rw (e, le-leb b a h)

pub power_down : (a b w : ℕ) → a < b → w ≡ width (b - a) → 101 ∷ 45 ∷ numeral w (b - a) ≡ power a b
unfolding power
power_down a b w h e = rw (e, lt-leb b a h)

module _ (d : Decimal) where
  pub plain_up : d.down ≤ d.up → pointed (d.figures * 10 ^ (d.up - d.down + 1)) 1 ≡ plainly d
  unfolding plainly
  plain_up h = rw (le-leb d.down d.up h)

  pub plain_down : d.up < d.down → pointed d.figures (d.down - d.up) ≡ plainly d
  unfolding plainly
  plain_down h = rw (lt-leb d.down d.up h)

  module _ (n : ℕ) where
    pub one_digit : n < 2 → pointed (d.figures * 10) 1 ++ power d.up d.down ≡ scientific n d
    unfolding scientific
    one_digit h = rw (lt-ltb n 2 h)

    pub more_digits : 2 ≤ n → pointed d.figures (n - 1) ++ power (n - 1 + d.up) d.down ≡ scientific n d
    unfolding scientific
    more_digits h = rw (le-ltb n 2 h)

    text_is : (b : Bool) → n ≡ places_to 20 d.figures → plain n d ≡ b → cond b (plainly d) (scientific n d) ≡ decimal_text d
    unfolding decimal_text
    text_is b e h = rw (← h, ← e)

    pub text_large : n ≡ places_to 20 d.figures → d.down + 15 < n + d.up → scientific n d ≡ decimal_text d
    unfolding plain
    text_large e h = text_is false e (rw (lt-leb (n + d.up) (d.down + 15) h))

    pub text_small : n ≡ places_to 20 d.figures → n + d.up ≤ d.down + 15 → n + d.up + 5 < d.down → scientific n d ≡ decimal_text d
    unfolding plain
    text_small e h k = text_is false e (rw (le-leb (n + d.up) (d.down + 15) h, lt-leb d.down (n + d.up + 5) k))

    pub text_plain : n ≡ places_to 20 d.figures → n + d.up ≤ d.down + 15 → d.down ≤ n + d.up + 5 → plainly d ≡ decimal_text d
    unfolding plain
    text_plain e h k = text_is true e (rw (le-leb (n + d.up) (d.down + 15) h, le-leb d.down (n + d.up + 5) k))

    pub plain_of : Small d → n ≡ places_to 20 d.figures → n + d.up ≤ d.down + 15 → d.down ≤ n + d.up + 5 → Plain d
    plain_of s e h k =
        let w : n ≤ 17 = subst (λ (x : ℕ). x ≤ 17) (sym e) (places_few d.figures 20 17 s.figures) in
        let u : d.figures < 10 ^ n = subst (λ (x : ℕ). d.figures < 10 ^ x) (sym e) (places_under d.figures 20 (lt_of_lt_of_le s.figures (lit≤ tt))) in
        let m : n + (d.up - d.down + 1) ≤ 18 = omega arith in
        record {
          small = s;
          below = lt_of_lt_of_le (mul-lt-mul_of_pos_right u (ten_pos (d.up - d.down + 1))) (le_trans (le_of_eq (sym (pow-add 10 n (d.up - d.down + 1)))) (pow-le-pow_right (lit< tt) m));
          behind = omega arith;
        }

-- ---- the row

module _ (b : ℕ) where
  abbrev pub size_of : List ℕ
  size_of = decimal_text (figures_of (b / 2 ^ 52 % 2048) (b % 2 ^ 52))

  pub none_is : b / 2 ^ 52 % 2048 ≡ 2047 → written b ≡ []
  unfolding written
  none_is e = rw (eq-eqb (b / 2 ^ 52 % 2048) 2047 e)

  pub negative_is : (b / 2 ^ 52 % 2048 ≡ 2047 → ⊥) → 2 ^ 63 ≤ b → 45 ∷ size_of ≡ written b
  unfolding written
  negative_is e h = rw (ne_eqb (b / 2 ^ 52 % 2048) 2047 e, le-leb (2 ^ 63) b h)

  pub positive_is : (b / 2 ^ 52 % 2048 ≡ 2047 → ⊥) → b < 2 ^ 63 → size_of ≡ written b
  unfolding written
  positive_is e h = rw (ne_eqb (b / 2 ^ 52 % 2048) 2047 e, lt-leb (2 ^ 63) b h)

module _ (old : List ℕ) (b : ℕ) where
  pub row_short : length old < 32 → Row old old 0 b
  row_short h = record { counted = rw (lt-leb 32 (length old) h); stands = rw (lt-leb 32 (length old) h); size = refl; within = omega arith }

  pub row_none : b / 2 ^ 52 % 2048 ≡ 2047 → Row old old 0 b
  row_none e = go (leb 32 (length old)) refl
    where
      go : (c : Bool) → leb 32 (length old) ≡ c → Row old old 0 b
      go true f = record { counted = rw (f, none_is b e); stands = rw (f, none_is b e); size = refl; within = omega arith }
      go false f = row_short (leb-false 32 (length old) f)

  row_whole : (new : List ℕ) (n : ℕ) → 32 ≤ length old → Puts old new 0 n (written b) → Row old new n b
  row_whole new n h p =
      let e : n ≡ length (written b) = p.behind ∙ zero-add (length (written b)) in
      let s : new ≡ written b ++ drop n old = p.holds ∙ ap (λ (y : ℕ). written b ++ drop y old) (sym p.behind) in
      record {
        counted = rw (le-leb 32 (length old) h) e;
        stands = rw (le-leb 32 (length old) h) s;
        size = p.size;
        within = omega (arith, e, ap length s, length-append (written b) (drop n old));
      }

  pub row_negative : (new : List ℕ) (n : ℕ) → 32 ≤ length old → (b / 2 ^ 52 % 2048 ≡ 2047 → ⊥) → 2 ^ 63 ≤ b → Puts old new 0 n (45 ∷ size_of b) → Row old new n b
  row_negative new n h e k p = row_whole new n h (puts_as (negative_is b e k) p)

  pub row_positive : (new : List ℕ) (n : ℕ) → 32 ≤ length old → (b / 2 ^ 52 % 2048 ≡ 2047 → ⊥) → b < 2 ^ 63 → Puts old new 0 n (size_of b) → Row old new n b
  row_positive new n h e k p = row_whole new n h (puts_as (positive_is b e k) p)
