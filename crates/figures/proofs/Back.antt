-- The bytes that are written are read as the real: the digits and the power of ten are those of its decimal, and that is read as the real.
-- Assumes nothing.
use mathlib.Core.Path.{◌≡◌, refl, sym, ap, ◌∙◌, subst}
use mathlib.Core.Bool.{Bool, true, false, cond}
use mathlib.Core.List.{List, [], ◌∷◌, ◌++◌, append_assoc, append-nil}
use Prim.Native.Nat.{ℕ, zero, suc, ◌+◌, ◌*◌, ◌-◌, ◌/◌, ◌%◌, ◌^◌, ◌≤◌, ◌<◌}
use native.Mathlib.Nat.{sub-le, lt_trans, lt_of_le_of_lt, lt_of_lt_of_le, lt_irrefl, zero-mul, zero-add, mul_assoc, pow-suc, pow-succ', pow-le-pow_right, div-le_self, div-div-eq-div-mul, div-add-mod', mod-eq_of_lt, mod-lt, pos_of_ne-zero, le-max_left, le-max_right}
use native.Mathlib.Omega.{arith}
use lib.Arith.{mod-mul}
use lib.Pow.{pow-add}
use lib.Dec.{leb, ltb, eqb, lit<}
use lib.Ieee.{binary64, of_bits, of_fields, round}
use lib.Ieee.Scale.{round_same}
use borrow.Author.Tests.{ne_eqb, leb-true, leb-false, ltb-true, ltb-false, eqb-true, eqb-false}
use Rattle.figures.specs.Digits.{places_to}
use Rattle.figures.specs.Fewest.{figures_of, Small}
use Rattle.figures.specs.Written.{numeral, width, pointed, power, plainly, Plain, scientific, decimal_text, written}
use Rattle.figures.specs.Reading.{before, behind, onto, raised, lowered, read_size, read_text}
use Rattle.figures.specs.declared.fewest.Decimal.{Decimal}
use Rattle.figures.proofs.Spelling.{ten_pos}
use Rattle.figures.proofs.Rounding.{places_under, places_few}
use Rattle.figures.proofs.Rows.{numeral_length, plain_up, plain_down, one_digit, more_digits, text_large, text_small, text_plain, plain_of, negative_is, positive_is}
use Rattle.figures.proofs.Seventeen.{read, zero_back, figures_small, figures_back}

-- ---- the digits of a number are no point, no e and no sign

no_mark : (k r : ℕ) → (k < 48) → eqb (48 + r) k ≡ false
no_mark k r h = ne_eqb (48 + r) k (λ (e : 48 + r ≡ k). lt_irrefl 0 (omega arith))

no_e : (c : ℕ) → eqb (48 + c % 10) 101 ≡ false
no_e c = ne_eqb (48 + c % 10) 101 (λ (e : 48 + c % 10 ≡ 101). lt_irrefl 0 (omega arith))

no_point : (c : ℕ) → eqb (48 + c % 10) 46 ≡ false
no_point c = no_mark 46 (c % 10) (lit< tt)

module _ (k : ℕ) (other : (c : ℕ) → eqb (48 + c % 10) k ≡ false) where
  before_digits : (n c : ℕ) (l : List ℕ) → before k (numeral n c ++ l) ≡ numeral n c ++ before k l
  unfolding before numeral
  before_digits zero c l = refl
  before_digits (suc n) c l =
      ap (before k) (append_assoc (numeral n (c / 10)) ((48 + c % 10) ∷ []) l) ∙ before_digits n (c / 10) ((48 + c % 10) ∷ l)
      ∙ ap (λ (b : Bool). numeral n (c / 10) ++ cond b [] ((48 + c % 10) ∷ before k l)) (other c) ∙ sym (append_assoc (numeral n (c / 10)) ((48 + c % 10) ∷ []) (before k l))

  behind_digits : (n c : ℕ) (l : List ℕ) → behind k (numeral n c ++ l) ≡ behind k l
  unfolding behind numeral
  behind_digits zero c l = refl
  behind_digits (suc n) c l = ap (behind k) (append_assoc (numeral n (c / 10)) ((48 + c % 10) ∷ []) l) ∙ behind_digits n (c / 10) ((48 + c % 10) ∷ l) ∙ ap (λ (b : Bool). cond b l (behind k l)) (other c)

-- ---- they are put behind a number

onto_append : (n : ℕ) (l r : List ℕ) → onto n (l ++ r) ≡ onto (onto n l) r
unfolding onto
onto_append n [] r = refl
onto_append n (b ∷ l) r = onto_append (cond (eqb b 46) n (n * 10 + (b - 48))) l r

onto_digit : (a c : ℕ) (l : List ℕ) → onto a ((48 + c % 10) ∷ l) ≡ onto (a * 10 + c % 10) l
unfolding onto
onto_digit a c l = ap (λ (b : Bool). onto (cond b a (a * 10 + (48 + c % 10 - 48))) l) (no_point c) ∙ ap (λ (x : ℕ). onto (a * 10 + x) l) (back (c % 10))
  where
    back : (r : ℕ) → 48 + r - 48 ≡ r
    back r = omega arith

onto_none : (a : ℕ) → onto a [] ≡ a
unfolding onto
onto_none a = refl

onto_digits : (n a c : ℕ) → onto a (numeral n c) ≡ a * 10 ^ n + c % 10 ^ n
unfolding numeral
onto_digits zero a c = onto_none a ∙ one a c
  where
    one : (a c : ℕ) → a ≡ a * 1 + c % 1
    one a c = omega arith
onto_digits (suc n) a c =
    onto_append a (numeral n (c / 10)) ((48 + c % 10) ∷ []) ∙ ap (λ (x : ℕ). onto x ((48 + c % 10) ∷ [])) (onto_digits n a (c / 10))
    ∙ onto_digit (a * 10 ^ n + c / 10 % 10 ^ n) c [] ∙ onto_none ((a * 10 ^ n + c / 10 % 10 ^ n) * 10 + c % 10) ∙ last
  where
    last : (a * 10 ^ n + c / 10 % 10 ^ n) * 10 + c % 10 ≡ a * 10 ^ suc n + c % 10 ^ suc n
    last =
        let e : 10 ^ suc n ≡ 10 ^ n * 10 = pow-suc 10 n in
        let f : c % (10 ^ n * 10) ≡ c / 10 % 10 ^ n * 10 + c % 10 = mod-mul c (ten_pos n) (lit< tt) in
        let g : a * (10 ^ n * 10) ≡ a * 10 ^ n * 10 = sym (mul_assoc a (10 ^ n) 10) in
        subst (λ (x : ℕ). (a * 10 ^ n + c / 10 % 10 ^ n) * 10 + c % 10 ≡ a * x + c % x) (sym e) (omega (arith, f, g))

-- ---- the first of them

first_digit : (n c : ℕ) → numeral (suc n) c ≡ (48 + c / 10 ^ n % 10) ∷ numeral n c
unfolding numeral
first_digit zero c = ap (λ (x : ℕ). (48 + x % 10) ∷ []) (one c)
  where
    one : (c : ℕ) → c ≡ c / 1
    one c = omega arith
first_digit (suc n) c =
    ap (λ (l : List ℕ). l ++ (48 + c % 10) ∷ []) (first_digit n (c / 10))
    ∙ ap (λ (x : ℕ). (48 + x % 10) ∷ (numeral n (c / 10) ++ (48 + c % 10) ∷ [])) (div-div-eq-div-mul c 10 (10 ^ n) ∙ ap (λ (x : ℕ). c / x) (sym (pow-succ' 10 n)))

width_pos : (c : ℕ) → 0 < width c
unfolding width
width_pos c = le-max_left 1 (places_to 20 c)

width_fits : (c : ℕ) → c < 10 ^ 20 → c % 10 ^ width c ≡ c
unfolding width
width_fits c h = mod-eq_of_lt (lt_of_lt_of_le (places_under c 20 h) (pow-le-pow_right (lit< tt) (le-max_right 1 (places_to 20 c))))

-- ---- digits with a point

onto_point : (a : ℕ) (l : List ℕ) → onto a (46 ∷ l) ≡ onto a l
unfolding onto
onto_point a l = refl

module _ (c f : ℕ) where
  abbrev q : ℕ
  q = c / 10 ^ f

  onto_pointed : c / 10 ^ f < 10 ^ 20 → onto 0 (pointed c f) ≡ c
  unfolding pointed
  onto_pointed h =
      onto_append 0 (numeral (width q) q) (46 ∷ numeral f c) ∙ ap (λ (x : ℕ). onto x (46 ∷ numeral f c)) (onto_digits (width q) 0 q ∙ ap (λ (x : ℕ). x + q % 10 ^ width q) (zero-mul (10 ^ width q)) ∙ zero-add (q % 10 ^ width q) ∙ width_fits q h)
      ∙ onto_point q (numeral f c) ∙ onto_digits f q c ∙ div-add-mod' c (10 ^ f)

  behind_point : behind 46 (pointed c f) ≡ numeral f c
  unfolding pointed behind
  behind_point = behind_digits 46 no_point (width q) q (46 ∷ numeral f c)

  before_e : (l : List ℕ) → before 101 l ≡ [] → before 101 (pointed c f ++ l) ≡ pointed c f
  unfolding pointed before
  before_e l e =
      ap (before 101) (append_assoc (numeral (width q) q) (46 ∷ numeral f c) l) ∙ before_digits 101 no_e (width q) q (46 ∷ (numeral f c ++ l))
      ∙ ap (λ (r : List ℕ). numeral (width q) q ++ 46 ∷ r) (before_digits 101 no_e f c l ∙ ap (λ (r : List ℕ). numeral f c ++ r) e ∙ append-nil (numeral f c))

  behind_e : (l : List ℕ) → behind 101 (pointed c f ++ l) ≡ behind 101 l
  unfolding pointed behind
  behind_e l = ap (behind 101) (append_assoc (numeral (width q) q) (46 ∷ numeral f c) l) ∙ behind_digits 101 no_e (width q) q (46 ∷ (numeral f c ++ l)) ∙ behind_digits 101 no_e f c l

  size_pointed : (s : Bool) (l : List ℕ) → c / 10 ^ f < 10 ^ 20 → before 101 l ≡ [] → read_size s (pointed c f ++ l) ≡ round binary64 s (c * 10 ^ raised (behind 101 l)) (10 ^ (f + lowered (behind 101 l)))
  unfolding read_size
  size_pointed s l h e = rw (before_e l e, behind_e l, behind_point, onto_pointed h, numeral_length f c)

  -- its first byte is a digit
  begins : (l : List ℕ) → read_text (pointed c f ++ l) ≡ read_size false (pointed c f ++ l)
  unfolding pointed read_text
  begins l = go (width q) (width_pos q)
    where
      digit : (r : ℕ) (l : List ℕ) → cond (eqb (48 + r) 45) (read_size true l) (read_size false ((48 + r) ∷ l)) ≡ read_size false ((48 + r) ∷ l)
      digit r l = ap (λ (b : Bool). cond b (read_size true l) (read_size false ((48 + r) ∷ l))) (no_mark 45 r (lit< tt))

      go : (w : ℕ) → 0 < w → read_text ((numeral w q ++ 46 ∷ numeral f c) ++ l) ≡ read_size false ((numeral w q ++ 46 ∷ numeral f c) ++ l)
      go zero h = absurd (lt_irrefl 0 h)
      go (suc w) h = rw (first_digit w q) (digit (q / 10 ^ w % 10) ((numeral w q ++ 46 ∷ numeral f c) ++ l))

-- ---- the power of ten

module _ (n : ℕ) (h : n < 10 ^ 20) where
  onto_whole : onto 0 (numeral (width n) n) ≡ n
  onto_whole = onto_digits (width n) 0 n ∙ ap (λ (x : ℕ). x + n % 10 ^ width n) (zero-mul (10 ^ width n)) ∙ zero-add (n % 10 ^ width n) ∙ width_fits n h

  raised_whole : raised (numeral (width n) n) ≡ n
  unfolding raised
  raised_whole = go (width n) (width_pos n) onto_whole
    where
      digit : (r : ℕ) (l : List ℕ) → onto 0 ((48 + r) ∷ l) ≡ n → cond (eqb (48 + r) 45) 0 (onto 0 ((48 + r) ∷ l)) ≡ n
      digit r l e = ap (λ (b : Bool). cond b 0 (onto 0 ((48 + r) ∷ l))) (no_mark 45 r (lit< tt)) ∙ e

      go : (w : ℕ) → 0 < w → onto 0 (numeral w n) ≡ n → raised (numeral w n) ≡ n
      go zero h e = absurd (lt_irrefl 0 h)
      go (suc w) h e = rw (first_digit w n) (digit (n / 10 ^ w % 10) (numeral w n) (subst (λ (l : List ℕ). onto 0 l ≡ n) (first_digit w n) e))

  lowered_whole : lowered (numeral (width n) n) ≡ 0
  unfolding lowered
  lowered_whole = go (width n) (width_pos n)
    where
      digit : (r : ℕ) (l : List ℕ) → cond (eqb (48 + r) 45) (onto 0 l) 0 ≡ 0
      digit r l = ap (λ (b : Bool). cond b (onto 0 l) 0) (no_mark 45 r (lit< tt))

      go : (w : ℕ) → 0 < w → lowered (numeral w n) ≡ 0
      go zero h = absurd (lt_irrefl 0 h)
      go (suc w) h = rw (first_digit w n) (digit (n / 10 ^ w % 10) (numeral w n))

module _ (a b : ℕ) (la : a < 10 ^ 4) (lb : b < 10 ^ 4) where
  power_e : before 101 (power a b) ≡ []
  unfolding power before
  power_e = refl

  abbrev tail : List ℕ
  tail = cond (leb b a) (numeral (width (a - b)) (a - b)) (45 ∷ numeral (width (b - a)) (b - a))

  behind_power : behind 101 (power a b) ≡ tail
  unfolding power behind
  behind_power = refl

  power_raised : raised (behind 101 (power a b)) ≡ a - b
  unfolding raised
  power_raised = ap raised behind_power ∙ go (leb b a) refl
    where
      none : a < b → 0 ≡ a - b
      none h = omega arith

      go : (t : Bool) → leb b a ≡ t → raised (cond t (numeral (width (a - b)) (a - b)) (45 ∷ numeral (width (b - a)) (b - a))) ≡ a - b
      go true e = raised_whole (a - b) (lt_of_le_of_lt (sub-le a b) (lt_trans la (lit< tt)))
      go false e = none (leb-false b a e)

  power_lowered : lowered (behind 101 (power a b)) ≡ b - a
  unfolding lowered
  power_lowered = ap lowered behind_power ∙ go (leb b a) refl
    where
      none : b ≤ a → 0 ≡ b - a
      none h = omega arith

      go : (t : Bool) → leb b a ≡ t → lowered (cond t (numeral (width (a - b)) (a - b)) (45 ∷ numeral (width (b - a)) (b - a))) ≡ b - a
      go true e = lowered_whole (a - b) (lt_of_le_of_lt (sub-le a b) (lt_trans la (lit< tt))) ∙ none (leb-true b a e)
      go false e = onto_whole (b - a) (lt_of_le_of_lt (sub-le b a) (lt_trans lb (lit< tt)))

-- ---- the decimal

powers : (x a b c e : ℕ) → a + b ≡ c + e → x * 10 ^ a * 10 ^ b ≡ x * 10 ^ c * 10 ^ e
powers x a b c e h = joined a b ∙ ap (λ (i : ℕ). x * 10 ^ i) h ∙ sym (joined c e)
  where
    joined : (a b : ℕ) → x * 10 ^ a * 10 ^ b ≡ x * 10 ^ (a + b)
    joined a b = mul_assoc x (10 ^ a) (10 ^ b) ∙ ap (λ (i : ℕ). x * i) (sym (pow-add 10 a b))

powers_more : (x g a b c e : ℕ) → g + a + b ≡ c + e → x * 10 ^ g * 10 ^ a * 10 ^ b ≡ x * 10 ^ c * 10 ^ e
powers_more x g a b c e h = ap (λ (i : ℕ). i * 10 ^ b) (mul_assoc x (10 ^ g) (10 ^ a) ∙ ap (λ (i : ℕ). x * i) (sym (pow-add 10 g a))) ∙ powers x (g + a) b c e h

-- the text of a decimal is c with f digits behind the point, and the power of ten r - w
record Laid (d : Decimal) : Type 0 where
  c : ℕ
  f : ℕ
  r : ℕ
  w : ℕ
  l : List ℕ
  text : decimal_text d ≡ pointed c f ++ l
  fits : c / 10 ^ f < 10 ^ 20
  end : before 101 l ≡ []
  up_is : raised (behind 101 l) ≡ r
  down_is : lowered (behind 101 l) ≡ w
  same : c * 10 ^ r * 10 ^ d.down ≡ d.figures * 10 ^ d.up * 10 ^ (f + w)

module _ (d : Decimal) (S : Small d) where
  abbrev F : ℕ
  F = d.figures

  abbrev n : ℕ
  n = places_to 20 d.figures

  small : (c f : ℕ) → c < 10 ^ 18 → c / 10 ^ f < 10 ^ 20
  small c f h = lt_of_le_of_lt (div-le_self c (10 ^ f)) (lt_trans h (lit< tt))

  n_few : n ≤ 17
  n_few = places_few F 20 17 S.figures

  without_power : (c f : ℕ) → pointed c f ≡ decimal_text d → c < 10 ^ 18 → c * 10 ^ 0 * 10 ^ d.down ≡ F * 10 ^ d.up * 10 ^ (f + 0) → Laid d
  unfolding before behind raised lowered
  without_power c f e h k = record { c = c; f = f; r = 0; w = 0; l = []; text = sym e ∙ sym (append-nil (pointed c f)); fits = small c f h; end = refl; up_is = refl; down_is = refl; same = k }

  with_power : (c f a b : ℕ) → pointed c f ++ power a b ≡ decimal_text d → c < 10 ^ 18 → a < 10 ^ 4 → b < 10 ^ 4 → c * 10 ^ (a - b) * 10 ^ d.down ≡ F * 10 ^ d.up * 10 ^ (f + (b - a)) → Laid d
  with_power c f a b e h la lb k = record { c = c; f = f; r = a - b; w = b - a; l = power a b; text = sym e; fits = small c f h; end = power_e a b la lb; up_is = power_raised a b la lb; down_is = power_lowered a b la lb; same = k }

  plain_laid : Plain d → plainly d ≡ decimal_text d → Laid d
  plain_laid p e = go (leb d.down d.up) refl
    where
      sum : d.down ≤ d.up → d.up - d.down + 1 + 0 + d.down ≡ d.up + (1 + 0)
      sum h = omega arith

      other : d.up < d.down → 0 + d.down ≡ d.up + (d.down - d.up + 0)
      other h = omega arith

      go : (b : Bool) → leb d.down d.up ≡ b → Laid d
      go true f = without_power (F * 10 ^ (d.up - d.down + 1)) 1 (plain_up d (leb-true d.down d.up f) ∙ e) p.below (powers_more F (d.up - d.down + 1) 0 d.down d.up (1 + 0) (sum (leb-true d.down d.up f)))
      go false f = without_power F (d.down - d.up) (plain_down d (leb-false d.down d.up f) ∙ e) (lt_trans S.figures (lit< tt)) (powers F 0 d.down d.up (d.down - d.up + 0) (other (leb-false d.down d.up f)))

  power_laid : scientific n d ≡ decimal_text d → Laid d
  power_laid e = go (ltb n 2) refl
    where
      one : 1 + (d.up - d.down) + d.down ≡ d.up + (1 + (d.down - d.up))
      one = omega arith

      more : n - 1 + d.up - d.down + d.down ≡ d.up + (n - 1 + (d.down - (n - 1 + d.up)))
      more = omega arith

      ten : F * 10 < 10 ^ 18
      ten = omega (arith, S.figures)

      ups : d.up < 10 ^ 4
      ups = lt_trans S.up (lit< tt)

      downs : d.down < 10 ^ 4
      downs = lt_trans S.down (lit< tt)

      longer : n - 1 + d.up < 10 ^ 4
      longer = omega (arith, S.up, n_few)

      go : (b : Bool) → ltb n 2 ≡ b → Laid d
      go true f = with_power (F * 10) 1 d.up d.down (one_digit d n (ltb-true n 2 f) ∙ e) ten ups downs (powers_more F 1 (d.up - d.down) d.down d.up (1 + (d.down - d.up)) one)
      go false f = with_power F (n - 1) (n - 1 + d.up) d.down (more_digits d n (ltb-false n 2 f) ∙ e) (lt_trans S.figures (lit< tt)) longer downs (powers F (n - 1 + d.up - d.down) d.down d.up (n - 1 + (d.down - (n - 1 + d.up))) more)

  laid : Laid d
  laid = go (leb (n + d.up) (d.down + 15)) refl (leb d.down (n + d.up + 5)) refl
    where
      go : (a : Bool) → leb (n + d.up) (d.down + 15) ≡ a → (b : Bool) → leb d.down (n + d.up + 5) ≡ b → Laid d
      go false a b c = power_laid (text_large d n refl (leb-false (n + d.up) (d.down + 15) a))
      go true a false c = power_laid (text_small d n refl (leb-true (n + d.up) (d.down + 15) a) (leb-false d.down (n + d.up + 5) c))
      go true a true c =
          let h = leb-true (n + d.up) (d.down + 15) a in
          let k = leb-true d.down (n + d.up + 5) c in
          plain_laid (plain_of d n S refl h k) (text_plain d n refl h k)

  text_begins : read_text (decimal_text d) ≡ read_size false (decimal_text d)
  text_begins =
      let y = laid in
      ap read_text y.text ∙ begins y.c y.f y.l ∙ ap (read_size false) (sym y.text)

  text_back : (s : Bool) → read_size s (decimal_text d) ≡ round binary64 s (F * 10 ^ d.up) (10 ^ d.down)
  text_back s =
      let y = laid in
      ap (read_size s) y.text ∙ size_pointed y.c y.f s y.l y.fits y.end
      ∙ ap (λ (i : ℕ). round binary64 s (y.c * 10 ^ i) (10 ^ (y.f + lowered (behind 101 y.l)))) y.up_is
      ∙ ap (λ (i : ℕ). round binary64 s (y.c * 10 ^ y.r) (10 ^ (y.f + i))) y.down_is
      ∙ round_same binary64 s (y.c * 10 ^ y.r) (10 ^ (y.f + y.w)) (F * 10 ^ d.up) (10 ^ d.down) (ten_pos (y.f + y.w)) (ten_pos d.down) y.same

-- ---- the bits

abbrev sign : ℕ → Bool
sign b = leb (2 ^ 63) b

module _ (b : ℕ) where
  abbrev x : ℕ
  x = b / 2 ^ 52 % 2048

  abbrev t : ℕ
  t = b % 2 ^ 52

  fields_of : b % 2 ^ 63 / 2 ^ 52 ≡ x
  fields_of = omega arith

  bits_of : of_bits binary64 b ≡ of_fields binary64 (sign b) x t
  unfolding of_bits
  bits_of = ap (λ (i : ℕ). of_fields binary64 (sign b) i t) fields_of

  -- what is written of a finite real is read as that real
  pub read_back : (x ≡ 2047 → ⊥) → read_text (written b) ≡ of_bits binary64 b
  unfolding read_text
  read_back n = go (sign b) refl
    where
      under : x < 2047
      under = omega (arith, n)

      low : t < 2 ^ 52
      low = mod-lt b (lit< tt)

      none_x : x + t ≡ 0 → x ≡ 0
      none_x e = omega arith

      none_t : x + t ≡ 0 → t ≡ 0
      none_t e = omega arith

      size : (s : Bool) (c : Bool) → eqb (x + t) 0 ≡ c → read s (figures_of x t) ≡ of_fields binary64 s x t
      size s true e = zero_back s x t (none_x (eqb-true (x + t) 0 e)) (none_t (eqb-true (x + t) 0 e))
      size s false e = figures_back s x t under low (pos_of_ne-zero (eqb-false (x + t) 0 e))

      whole : (s : Bool) → sign b ≡ s → read_size s (decimal_text (figures_of x t)) ≡ of_bits binary64 b
      whole s e = text_back (figures_of x t) (figures_small x t under low) s ∙ size s (eqb (x + t) 0) refl ∙ sym (bits_of ∙ ap (λ (i : Bool). of_fields binary64 i x t) e)

      go : (s : Bool) → sign b ≡ s → read_text (written b) ≡ of_bits binary64 b
      go true e = ap read_text (sym (negative_is b n (leb-true (2 ^ 63) b e))) ∙ whole true e
      go false e = ap read_text (sym (positive_is b n (leb-false (2 ^ 63) b e))) ∙ text_begins (figures_of x t) (figures_small x t under low) ∙ whole false e
