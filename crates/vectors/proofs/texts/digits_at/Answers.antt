-- `vectors::texts::digits_at` meets its contract. The value so far and the digits from i on make the number, modulo 10,000,000,000, and the digits passed
-- are its digits. Assumes nothing.
use mathlib.Core.Path.{◌≡◌, refl, sym, ap, ◌∙◌}
use mathlib.Core.Bool.{Bool, true, false}
use mathlib.Core.List.{List, [], ◌∷◌}
use Prim.Native.Nat.{ℕ, ◌+◌, ◌-◌, ◌*◌, ◌%◌, ◌≤◌, ◌<◌}
use native.Mathlib.Omega.{arith}
use lib.ListN.{length, get_or, drop, drop_of_length-le}
use borrow.Author.Rules.{rules}
use borrow.Author.Tests.{lt-ltb, le-ltb}
use Rattle.symbols.specs.Names.{digit, value_from}
use Rattle.symbols.proofs.Laws.{peel, digit_range}
use Rattle.vectors.specs.declared.texts.Numeral.{Numeral}
use Rattle.vectors.specs.Listed.{digits, behind, digits_at}
use Rattle.vectors.proofs.texts.digits_at.Goals as goal

-- ---- the digits from i on
module _ (s : List ℕ) (i : ℕ) where
  digits-on : i < length s → digit (get_or s i 0) ≡ true → digits (drop i s) ≡ get_or s i 0 ∷ digits (drop (i + 1) s)
  unfolding digits
  digits-on h e = rw (peel s i h, e)

  digits-stop : i < length s → digit (get_or s i 0) ≡ false → digits (drop i s) ≡ []
  unfolding digits
  digits-stop h e = rw (peel s i h, e)

  digits-end : length s ≤ i → digits (drop i s) ≡ []
  unfolding digits
  digits-end h = rw (drop_of_length-le s h)

  behind-in : i < length s → behind s i ≡ i + 1
  unfolding behind
  behind-in h = rw (lt-ltb i (length s) h)

  behind-end : length s ≤ i → behind s i ≡ i
  unfolding behind
  behind-end h = rw (le-ltb i (length s) h)

-- ---- the value may be cut at every digit
cut : (v d : ℕ) → (10 * (v % 10000000000) + d) % 10000000000 ≡ (10 * v + d) % 10000000000
cut v d = omega arith

cut_twice : (v : ℕ) → v % 10000000000 % 10000000000 ≡ v % 10000000000
cut_twice v = omega arith

cut-from : (v : ℕ) (ds : List ℕ) → value_from (v % 10000000000) ds % 10000000000 ≡ value_from v ds % 10000000000
unfolding value_from
cut-from v [] = cut_twice v
cut-from v (d ∷ ds) =
    sym (cut-from (10 * (v % 10000000000) + (d - 48)) ds)
    ∙ ap (λ (x : ℕ). value_from x ds % 10000000000) (cut v (d - 48))
    ∙ cut-from (10 * v + (d - 48)) ds

one_more : (v b : ℕ) (ds : List ℕ) → digit b ≡ true → value_from v (b ∷ ds) % 10000000000 ≡ value_from ((10 * v + b % 16) % 10000000000) ds % 10000000000
unfolding value_from
one_more v b ds h =
    let r = digit_range b h in
    let e : b % 16 ≡ b - 48 = omega arith in
    rw e (sym (cut-from (10 * v + (b - 48)) ds))

none_more : (v : ℕ) → v < 10000000000 → value_from v [] % 10000000000 ≡ v
unfolding value_from
none_more v h = omega arith

-- ---- a number of these parts
made : (text : List ℕ) (from : ℕ) (minus : Bool) (value next : ℕ)
    → value_from 0 (digits (drop from text)) % 10000000000 ≡ value
    → behind text (from + length (digits (drop from text))) ≡ next
    → ◌≡◌ {A = Numeral} (record { minus = minus; value = value; next = next }) (digits_at text from minus)
unfolding digits_at
made text from minus value next e f = rw (e, f)

pub loop-i-init : goal.loop-i-init
loop-i-init c = (search rules, refl, refl)

pub returns-then-not-is_digit : goal.returns-then-not-is_digit
returns-then-not-is_digit c =
    let a = c.args in
    let s = a.text.now in
    let l = c.loop-i in
    let h = c.loop-i-test.true in
    let t = digits-stop s l.i h (sym c.is_digit.ensures ∙ c.if-not-is_digit.true) in
    let q : a.from + length (digits (drop a.from s)) ≡ l.i = omega (arith, l.invariant.2, ap length t) in
    record { value_bound = l.invariant.0; value = made s a.from a.minus l.value (l.i + 1) (l.invariant.1 ∙ rw t (none_more l.value l.invariant.0)) (ap (behind s) q ∙ behind-in s l.i h) }

pub loop-i-preserved : goal.loop-i-preserved
loop-i-preserved c =
    let s = c.args.text.now in
    let l = c.loop-i in
    let h = c.loop-i-test.true in
    let d = sym c.is_digit.ensures ∙ c.if-not-is_digit.false in
    let t = digits-on s l.i h d in
    (omega arith, l.invariant.1 ∙ rw t (one_more l.value (get_or s l.i 0) (digits (drop (l.i + 1) s)) d), omega (arith, l.invariant.2, ap length t))

pub returns : goal.returns
returns c =
    let a = c.args in
    let s = a.text.now in
    let l = c.loop-i in
    let h = c.loop-i-test.false in
    let t = digits-end s l.i h in
    let q : a.from + length (digits (drop a.from s)) ≡ l.i = omega (arith, l.invariant.2, ap length t) in
    record { value_bound = l.invariant.0; value = made s a.from a.minus l.value l.i (l.invariant.1 ∙ rw t (none_more l.value l.invariant.0)) (ap (behind s) q ∙ behind-end s l.i h) }
