-- Laws of Numerals: what digits from a place on spell, and when a number is within 64 or 32 bits.
use mathlib.Core.Path.{◌≡◌, refl, sym}
use mathlib.Core.Bool.{Bool, true, false, cond, ◌&&◌, and-false}
use mathlib.Core.List.{List, [], ◌∷◌}
use Rattle.std.specs.Prelude.{None, Some}
use Prim.Native.Nat.{ℕ, zero, suc, ◌+◌, ◌-◌, ◌*◌, ◌^◌, ◌≤◌, ◌<◌}
use native.Mathlib.Omega.{arith}
use lib.Dec.{eqb, ltb}
use lib.IntN.{pos, neg_ℤ, ◌-ℤ◌, +ℤ_idl}
use lib.Signed.{mag}
use lib.ListN.{length, get_or, drop, drop_of_length-le}
use mir.Syntax.{w32, w64}
use mir.Val.{SFits, to_z}
use mir.Facts.{to_z_pos, sfits_widen}
use borrow.Author.Tests.{ltb-false, lt-ltb, le-ltb, le-leb, lt-leb, eq-eqb, ne_eqb}
use Rattle.symbols.specs.Names.{digit, value_from}
use Rattle.symbols.proofs.Laws.{peel}
use Rattle.asking.specs.Numerals.{digits, spelled, number_of, natural_of, counted, negated, within, integer_of, whole_of}

-- ---- digits from a place on

module _ (s : List ℕ) (i : ℕ) where
  pub digits_on : i < length s → digit (get_or s i 0) ≡ true → digits (drop i s) ≡ digits (drop (i + 1) s)
  unfolding digits
  digits_on h e = rw (peel s i h, e)

  pub digits_off : i < length s → digit (get_or s i 0) ≡ false → digits (drop i s) ≡ false
  unfolding digits
  digits_off h e = rw (peel s i h, e)

  pub digits_end : length s ≤ i → digits (drop i s) ≡ true
  unfolding digits
  digits_end h = rw (drop_of_length-le s h)

  pub value_on : (v : ℕ) → i < length s → value_from v (drop i s) ≡ value_from (10 * v + (get_or s i 0 - 48)) (drop (i + 1) s)
  unfolding value_from
  value_on v h = rw (peel s i h)

  pub value_end : (v : ℕ) → length s ≤ i → value_from v (drop i s) ≡ v
  unfolding value_from
  value_end v h = rw (drop_of_length-le s h)

-- more digits make no smaller number
pub value_least : (v : ℕ) (bs : List ℕ) → v ≤ value_from v bs
unfolding value_from
value_least v [] = omega arith
value_least v (b ∷ bs) = omega (arith, value_least (10 * v + (b - 48)) bs)

-- ---- numbers of 64 bits

module _ (bs : List ℕ) where
  pub natural_none : length bs ≡ 0 → natural_of bs ≡ None
  unfolding natural_of spelled
  natural_none e = rw e

  pub natural_other : digits bs ≡ false → natural_of bs ≡ None
  unfolding natural_of spelled
  natural_other e = rw (e, and-false (ltb 0 (length bs)))

  pub natural_large : 2 ^ 64 ≤ value_from 0 bs → natural_of bs ≡ None
  unfolding natural_of
  natural_large h = rw (le-ltb (value_from 0 bs) (2 ^ 64) h, and-false (spelled bs))

  pub natural_is_lem : (v : ℕ) → 0 < length bs → digits bs ≡ true → value_from 0 bs ≡ v → v < 2 ^ 64 → natural_of bs ≡ Some v
  unfolding natural_of spelled
  natural_is_lem v h e f l = rw (lt-ltb 0 (length bs) h, e, f, lt-ltb v (2 ^ 64) l)

-- ---- whole numbers of 32 bits

pub count_out : (n : ℕ) → 2147483647 < n → within (Some (pos n)) ≡ None
unfolding within
count_out n h = rw (lt-leb n 2147483647 h)

pub count_in_lem : (n : ℕ) → n ≤ 2147483647 → within (Some (pos n)) ≡ Some (pos n)
unfolding within
count_in_lem n h = rw (le-leb n 2147483647 h)

pub minus_out : (n : ℕ) → 2147483648 < n → within (Some (neg_ℤ (pos n))) ≡ None
unfolding within
minus_out zero h = absurd (omega arith)
minus_out (suc n) h = let l : 2147483647 < n = omega arith in rw (lt-leb n 2147483647 l)

pub minus_in : (n : ℕ) → n ≤ 2147483648 → within (Some (neg_ℤ (pos n))) ≡ Some (neg_ℤ (pos n))
unfolding within
minus_in zero h = refl
minus_in (suc n) h = let l : n ≤ 2147483647 = omega arith in rw (le-leb n 2147483647 l)

-- a number that 64 bits do not hold is no whole number of 32 bits either
pub natural_counts : (bs : List ℕ) → within (counted (natural_of bs)) ≡ within (counted (number_of bs))
unfolding natural_of number_of counted within
natural_counts bs = go (spelled bs) (ltb (value_from 0 bs) (2 ^ 64)) refl
  where
    go : (t u : Bool) → ltb (value_from 0 bs) (2 ^ 64) ≡ u
        → within (counted (cond (t && u) (Some (value_from 0 bs)) None)) ≡ within (counted (cond t (Some (value_from 0 bs)) None))
    go false u e = refl
    go true true e = refl
    go true false e = sym (count_out (value_from 0 bs) (omega (arith, ltb-false (value_from 0 bs) (2 ^ 64) e)))

pub natural_negates : (bs : List ℕ) → within (negated (natural_of bs)) ≡ within (negated (number_of bs))
unfolding natural_of number_of negated within
natural_negates bs = go (spelled bs) (ltb (value_from 0 bs) (2 ^ 64)) refl
  where
    go : (t u : Bool) → ltb (value_from 0 bs) (2 ^ 64) ≡ u
        → within (negated (cond (t && u) (Some (value_from 0 bs)) None)) ≡ within (negated (cond t (Some (value_from 0 bs)) None))
    go false u e = refl
    go true true e = refl
    go true false e = sym (minus_out (value_from 0 bs) (omega (arith, ltb-false (value_from 0 bs) (2 ^ 64) e)))

-- ---- 0 less a count, in 64 bits and then in 32

module _ (n : ℕ) (h : n ≤ 2147483648) where
  pub minus_read : pos 0 -ℤ to_z w64 n ≡ neg_ℤ (pos n)
  minus_read =
      let l : n < 9223372036854775808 = omega arith in
      rw (to_z_pos w64 l) (+ℤ_idl (neg_ℤ (pos n)))

  pub minus_fits : SFits w32 (neg_ℤ (pos n))
  minus_fits = record { sfits = go n h }
    where
      go : (n : ℕ) → n ≤ 2147483648 → mag (neg_ℤ (pos n)) < 2147483648
      go zero l = omega arith
      go (suc k) l = omega arith

  pub minus_wide : SFits w64 (neg_ℤ (pos n))
  minus_wide = sfits_widen {w = w32} tt minus_fits

-- ---- a text with a sign, and one with none

pub whole_none : (bs : List ℕ) → length bs ≡ 0 → whole_of bs ≡ None
unfolding whole_of integer_of within
whole_none [] e = refl
whole_none (b ∷ bs) e = absurd (omega arith)

pub whole_minus : (bs : List ℕ) → 0 < length bs → get_or bs 0 0 ≡ 45 → whole_of bs ≡ within (negated (natural_of (drop 1 bs)))
unfolding whole_of integer_of
whole_minus [] h e = absurd (omega arith)
whole_minus (b ∷ bs) h e = rw (eq-eqb b 45 e) (sym (natural_negates bs))

pub whole_plus : (bs : List ℕ) → 0 < length bs → get_or bs 0 0 ≡ 43 → whole_of bs ≡ within (counted (natural_of (drop 1 bs)))
unfolding whole_of integer_of
whole_plus [] h e = absurd (omega arith)
whole_plus (b ∷ bs) h e =
    let k : eqb b 45 ≡ false = rw e in
    rw (k, eq-eqb b 43 e) (sym (natural_counts bs))

pub whole_bare : (bs : List ℕ) → 0 < length bs → (get_or bs 0 0 ≡ 45 → ⊥) → (get_or bs 0 0 ≡ 43 → ⊥) → whole_of bs ≡ within (counted (natural_of bs))
unfolding whole_of integer_of
whole_bare [] h m p = absurd (omega arith)
whole_bare (b ∷ bs) h m p = rw (ne_eqb b 45 m, ne_eqb b 43 p) (sym (natural_counts (b ∷ bs)))
