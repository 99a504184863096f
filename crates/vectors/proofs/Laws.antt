-- Laws of the definitions in Ended: what is compared from a place on, by what is compared from the next one on.
use Rattle.std.proofs.Common.{Result}
use mathlib.Core.Path.{◌≡◌, refl, sym, ap, ◌∙◌}
use mathlib.Core.Bool.{Bool, true, false, cond, ◌&&◌, ◌||◌}
use mathlib.Core.List.{List, [], ◌∷◌, ◌++◌, append_assoc}
use Prim.Native.Nat.{ℕ, zero, suc, ◌+◌, ◌-◌, ◌≤◌, ◌<◌}
use native.Mathlib.Omega.{arith}
use native.Mathlib.Numerals.{add-one}
use lib.IntN.{ℤ, pos}
use lib.ListN.{length, get_or, take, drop, set, drop_of_length-le}
use lib.Seq.{drop-cons, drop-drop, take-suc-set}
use lib.Dec.{eqb}
use mir.Syntax.{Width}
use mir.Val.{SFits, of_z}
use borrow.Author.Tests.{eq-eqb, ne_eqb}
use Rattle.answers.specs.declared.Refusal.{Refusal}
use Rattle.answers.specs.Answers.{stop_number, stop_place}
use Rattle.answers.specs.declared.Stop.{Stop}
use Rattle.clean.specs.Job.{Writes}
use Rattle.reals.specs.Values.{same}
use Rattle.reals.proofs.Signed.{same_bits}
use Rattle.vectors.specs.declared.tally.Tally.{Tally}
use Rattle.vectors.specs.declared.texts.Numeral.{Numeral}
use Rattle.vectors.specs.Listed.{number_at, whole_of}
use Rattle.vectors.specs.Pages.{fresh_room}
use Rattle.vectors.specs.Ended.{stopped_by, numbers, after, begins, all_are}

-- ---- tests in a row

pub and_yes : (x y : Bool) → x ≡ true → y ≡ (x && y)
and_yes x y e = rw e

pub and_no : (x y : Bool) → x ≡ false → x ≡ (x && y)
and_no x y e = rw e

pub or_yes : (x y : Bool) → x ≡ true → x ≡ (x || y)
or_yes x y e = rw e

pub or_no : (x y : Bool) → x ≡ false → y ≡ (x || y)
or_no x y e = rw e

pub and_true : (x : Bool) → x ≡ (x && true)
and_true true = refl
and_true false = refl

module _ (x y : Bool) (a b : Tally) where
  pub both_yes : x ≡ true → y ≡ true → a ≡ cond (x && y) a b
  both_yes h k = rw (h, k)

  pub first_no : x ≡ false → b ≡ cond (x && y) a b
  first_no h = rw h

  pub second_no : x ≡ true → y ≡ false → b ≡ cond (x && y) a b
  second_no h k = rw (h, k)

-- ---- what is written into fresh room
pub into_fresh : (source : List ℕ) (w : Result ℕ Refusal) (lent after : List ℕ) → lent ≡ fresh_room → Writes source lent w after → Writes source fresh_room w after
into_fresh source w lent after e h = rw e at h

-- ---- a number is another one where its bits are

module _ (w : Width) (x y : ℤ) (f : SFits w x) (g : SFits w y) where
  same_yes : of_z w x ≡ of_z w y → same x y ≡ true
  same_yes e = sym (same_bits w {x = x} {y = y} f g) ∙ eq-eqb (of_z w x) (of_z w y) e

  same_no : (of_z w x ≡ of_z w y → ⊥) → same x y ≡ false
  same_no e = sym (same_bits w {x = x} {y = y} f g) ∙ ne_eqb (of_z w x) (of_z w y) e

-- ---- an answer, then its place

module _ (s : Stop) (a n m : ℕ) (answer : a ≡ stop_number s) where
  pub same_stop : (p : ℕ) → p ≡ stop_place s → a ≡ n → eqb p m ≡ stopped_by s n m
  same_stop p f h =
      let k : eqb (stop_number s) n ≡ true = eq-eqb (stop_number s) n (sym answer ∙ h) in
      rw k (ap (λ (q : ℕ). eqb q m) f)

  pub other_stop : (a ≡ n → ⊥) → eqb a n ≡ stopped_by s n m
  other_stop h =
      let k : eqb (stop_number s) n ≡ false = ne_eqb (stop_number s) n (λ e. h (answer ∙ e)) in
      rw k (ne_eqb a n h)

-- ---- each number is this one

module _ (x : ℤ) (s : List ℤ) (i : ℕ) where
  all_peel : i < length s → all_are x (drop i s) ≡ (same (get_or s i (pos 0)) x && all_are x (drop (i + 1) s))
  unfolding all_are
  all_peel h = rw (drop-cons s i (pos 0) h, add-one i)

  all_on : i < length s → same (get_or s i (pos 0)) x ≡ true → all_are x (drop i s) ≡ all_are x (drop (i + 1) s)
  all_on h e = all_peel h ∙ rw e

  all_off : i < length s → same (get_or s i (pos 0)) x ≡ false → all_are x (drop i s) ≡ false
  all_off h e = all_peel h ∙ rw e

  all_end : length s ≤ i → all_are x (drop i s) ≡ true
  unfolding all_are
  all_end h = rw (drop_of_length-le s h)

-- so a walk over numbers of any width that compares each with x: it stops at another number, goes on behind x, and comes to the end
module _ (w : Width) (x : ℤ) (f : SFits w x) (s : List ℤ) (i : ℕ) (all : Bool) (left : all ≡ all_are x (drop i s)) where
  pub stops : i < length s → SFits w (get_or s i (pos 0)) → (of_z w (get_or s i (pos 0)) ≡ of_z w x → ⊥) → false ≡ all
  stops h g e = sym (left ∙ all_off x s i h (same_no w (get_or s i (pos 0)) x g f e))

  pub goes_on : i < length s → SFits w (get_or s i (pos 0)) → of_z w (get_or s i (pos 0)) ≡ of_z w x → all ≡ all_are x (drop (i + 1) s)
  goes_on h g e = left ∙ all_on x s i h (same_yes w (get_or s i (pos 0)) x g f e)

  pub comes_to_end : length s ≤ i → true ≡ all
  comes_to_end h = sym (left ∙ all_end x s i h)

-- ---- numbers begin with these

one_begins : (x : ℤ) (xs ys : List ℤ) → begins (x ∷ xs) ys ≡ (begins (x ∷ []) ys && begins xs (drop 1 ys))
unfolding begins
one_begins x xs [] = refl
one_begins x xs (y ∷ ys) = ap (λ (b : Bool). b && begins xs ys) (and_true (same y x))

pub begins_one : (x : ℤ) (xs ys : List ℤ) (i : ℕ) → begins (x ∷ xs) (drop i ys) ≡ (begins (x ∷ []) (drop i ys) && begins xs (drop (i + 1) ys))
begins_one x xs ys i = one_begins x xs (drop i ys) ∙ ap (λ (l : List ℤ). begins (x ∷ []) (drop i ys) && begins xs l) (drop-drop 1 i ys)

pub begins_none : (ys : List ℤ) → begins [] ys ≡ true
unfolding begins
begins_none ys = refl

-- ---- the numbers that are left, of so many

module _ (text : List ℕ) (count i at : ℕ) where
  left : i < count → count - i ≡ suc (count - (i + 1))
  left h = omega arith

  none_left : count ≤ i → count - i ≡ zero
  none_left h = omega arith

  pub numbers_on : i < count → numbers text (count - i) at ≡ whole_of (number_at text at) ∷ numbers text (count - (i + 1)) (number_at text at).next
  unfolding numbers
  numbers_on h = rw (left h)

  pub numbers_end : count ≤ i → numbers text (count - i) at ≡ []
  unfolding numbers
  numbers_end h = rw (none_left h)

  pub after_on : i < count → after text (count - i) at ≡ after text (count - (i + 1)) (number_at text at).next
  unfolding after
  after_on h = rw (left h)

  pub after_end : count ≤ i → after text (count - i) at ≡ at
  unfolding after
  after_end h = rw (none_left h)

-- numbers one after the other
module _ (text : List ℕ) (count i at : ℕ) (n : Numeral) (next : n ≡ number_at text at) where
  pub after_one : i < count → after text (count - i) at ≡ after text (count - (i + 1)) n.next
  after_one h = after_on text count i at h ∙ ap (λ (m : Numeral). after text (count - (i + 1)) m.next) (sym next)

  -- one number more is stored, and one fewer left
  pub stored_one : (s : List ℤ) (x : ℤ) → i < count → i < length s → x ≡ whole_of n → take i s ++ numbers text (count - i) at ≡ take (i + 1) (set s i x) ++ numbers text (count - (i + 1)) n.next
  stored_one s x h k e =
      let f : take (i + 1) (set s i x) ≡ take i s ++ (x ∷ []) = rw add-one (take-suc-set s i x k) in
      let g : numbers text (count - i) at ≡ x ∷ numbers text (count - (i + 1)) n.next = numbers_on text count i at h ∙ rw (e, next) in
      rw (f, g) (sym (append_assoc (take i s) (x ∷ []) (numbers text (count - (i + 1)) n.next)))
