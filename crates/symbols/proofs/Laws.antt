-- Laws of the definitions in Names and Scan at a place of the source: what is read from i on, by what is read from i + 1 on.
use mathlib.Core.Path.{◌≡◌, refl, sym, ap, ◌∙◌}
use mathlib.Core.Bool.{Bool, true, false, cond, ◌&&◌}
use mathlib.Core.List.{List, [], ◌∷◌}
use Prim.Native.Nat.{ℕ, zero, suc, ◌+◌, ◌-◌, ◌*◌, ◌≤◌, ◌<◌, min}
use native.Mathlib.Omega.{arith}
use native.Mathlib.Numerals.{add-one}
use lib.Dec.{eqb, ltb, leb}
use lib.ListN.{length, get_or, take, drop, drop_of_length-le}
use lib.Seq.{drop-cons}
use borrow.Author.Tests.{ltb-true, ltb-false, leb-true, lt-ltb, eq-eqb, ne_eqb}
use Rattle.symbols.specs.Names.{blank, letter, digit, in_name, these, reach, letters, value_from, equal}
use Rattle.answers.specs.Numbers.{no_symbol, too_large}
use Rattle.answers.specs.Answers.{answer}
use Rattle.symbols.specs.declared.Turn.TheVariants.{Keep, Refuse}
use Rattle.symbols.specs.declared.Lexeme.TheVariants.{Large, Nothing}
use Rattle.symbols.specs.declared.Context.{Context}
use Rattle.symbols.specs.declared.Context.TheVariants.{Opens, Plain, Remark}
use Rattle.symbols.specs.Scan.{before, valued, behind, counted, lexeme, judged, turn}
use Rattle.symbols.specs.declared.Symbol.{Symbol}
use Rattle.symbols.specs.model.Steps.{capped, lexeme_at, turn_at}

-- ---- lists

pub peel : (s : List ℕ) (i : ℕ) → i < length s → drop i s ≡ get_or s i 0 ∷ drop (i + 1) s
peel s i h = rw add-one (drop-cons s i 0 h)

pub both : (x y : Bool) → (x && y) ≡ true → (x ≡ true) × (y ≡ true)
both true y h = (refl, h)
both false y h = let e : ◌≡◌ {A = Bool} false true = h in (e, cc)

-- ---- bytes up to another

module _ (s : List ℕ) (i : ℕ) where
  pub before_end : (q : ℕ) → length s ≤ i → length (before q (drop i s)) ≡ 0
  unfolding before
  before_end q h = rw (drop_of_length-le s h)

-- ---- runs of bytes of one sort

module _ (sort : ℕ → Bool) (s : List ℕ) (i : ℕ) where
  pub these_one : i < length s → sort (get_or s i 0) ≡ true → these sort (drop i s) ≡ get_or s i 0 ∷ these sort (drop (i + 1) s)
  unfolding these
  these_one h e = rw (peel s i h, e)

  pub these_on : i < length s → sort (get_or s i 0) ≡ false → blank (get_or s i 0) ≡ true → these sort (drop i s) ≡ these sort (drop (i + 1) s)
  unfolding these
  these_on h e f = rw (peel s i h, e, f)

  pub these_stop : i < length s → sort (get_or s i 0) ≡ false → blank (get_or s i 0) ≡ false → these sort (drop i s) ≡ []
  unfolding these
  these_stop h e f = rw (peel s i h, e, f)

  pub these_end : length s ≤ i → these sort (drop i s) ≡ []
  unfolding these
  these_end h = rw (drop_of_length-le s h)

  pub reach_one : i < length s → sort (get_or s i 0) ≡ true → reach sort (drop i s) ≡ suc (reach sort (drop (i + 1) s))
  unfolding reach
  reach_one h e = rw (peel s i h, e)

  pub reach_on : i < length s → sort (get_or s i 0) ≡ false → blank (get_or s i 0) ≡ true → reach sort (drop i s) ≡ suc (reach sort (drop (i + 1) s))
  unfolding reach
  reach_on h e f = rw (peel s i h, e, f)

  pub reach_stop : i < length s → sort (get_or s i 0) ≡ false → blank (get_or s i 0) ≡ false → reach sort (drop i s) ≡ 0
  unfolding reach
  reach_stop h e f = rw (peel s i h, e, f)

  pub reach_end : length s ≤ i → reach sort (drop i s) ≡ 0
  unfolding reach
  reach_end h = rw (drop_of_length-le s h)

-- ---- equal bytes

module _ (a b : List ℕ) (i : ℕ) where
  pub equal_on : i < length a → i < length b → get_or a i 0 ≡ get_or b i 0 → equal (drop i a) (drop i b) ≡ equal (drop (i + 1) a) (drop (i + 1) b)
  unfolding equal
  equal_on h k e = rw (peel a i h, peel b i k, eq-eqb (get_or a i 0) (get_or b i 0) e)

  pub equal_off : i < length a → i < length b → (get_or a i 0 ≡ get_or b i 0 → ⊥) → equal (drop i a) (drop i b) ≡ false
  unfolding equal
  equal_off h k e = rw (peel a i h, peel b i k, ne_eqb (get_or a i 0) (get_or b i 0) e)

  pub equal_end : length a ≤ i → length b ≤ i → equal (drop i a) (drop i b) ≡ true
  unfolding equal
  equal_end h k = rw (drop_of_length-le a h, drop_of_length-le b k)

pub equal_length : (a b : List ℕ) → (length a ≡ length b → ⊥) → equal a b ≡ false
unfolding equal
equal_length [] [] h = absurd (h refl)
equal_length [] (y ∷ b) h = refl
equal_length (x ∷ a) [] h = refl
equal_length (x ∷ a) (y ∷ b) h = rw (equal_length a b (λ e. h (ap suc e))) (and_no (eqb x y))
  where
    and_no : (t : Bool) → (t && false) ≡ false
    and_no true = refl
    and_no false = refl

-- ---- numbers

pub digit_range : (b : ℕ) → digit b ≡ true → (48 ≤ b) × (b ≤ 57)
unfolding digit
digit_range b h =
    let k = both (leb 48 b) (leb b 57) h in
    (leb-true 48 b k.0, leb-true b 57 k.1)

cap_again : (w d : ℕ) → capped (10 * capped w + d) ≡ capped (10 * w + d)
unfolding capped
cap_again w d = omega arith

cap_twice : (v : ℕ) → capped (capped v) ≡ capped v
unfolding capped
cap_twice v = omega arith

pub capped_small : (v : ℕ) → capped v ≤ 1000000000000000
unfolding capped
capped_small v = omega arith

pub capped_within : (v : ℕ) → v ≤ 1000000000000000 → capped v ≡ v
unfolding capped
capped_within v h = omega arith

pub capped_from : (w : ℕ) (ds : List ℕ) → capped (value_from (capped w) ds) ≡ capped (value_from w ds)
unfolding value_from
capped_from w [] = cap_twice w
capped_from w (d ∷ ds) =
    sym (capped_from (10 * capped w + (d - 48)) ds)
    ∙ ap (λ (v : ℕ). capped (value_from v ds)) (cap_again w (d - 48))
    ∙ capped_from (10 * w + (d - 48)) ds

pub valued_capped : (v k : ℕ) → valued (capped v) k ≡ valued v k
unfolding valued capped
valued_capped v k = go (ltb 2147483647 v) refl
  where
    go : (t : Bool) → ltb 2147483647 v ≡ t → valued (capped v) k ≡ valued v k
    go true e =
        let h = ltb-true 2147483647 v e in
        let f : 2147483647 < min v 1000000000000000 = omega arith in
        simp (e, lt-ltb 2147483647 (min v 1000000000000000) f)
    go false e =
        let h = ltb-false 2147483647 v e in
        let f : min v 1000000000000000 ≡ v = omega arith in
        rw f

-- ---- the first byte of a name or number

pub name_first : (b : ℕ) (bs : List ℕ) → letter b ≡ true → letters (b ∷ bs) ≡ b ∷ letters bs
unfolding these in_name
name_first b bs h = rw h

pub digit_first : (b : ℕ) (bs : List ℕ) → digit b ≡ true → these digit (b ∷ bs) ≡ b ∷ these digit bs
unfolding these
digit_first b bs h = rw h

pub number_more : (v : ℕ) (s : List ℕ) (i : ℕ) → i < length s → digit (get_or s i 0) ≡ true
    → capped (value_from v (these digit (drop i s))) ≡ capped (value_from (capped (10 * v + (get_or s i 0 - 48))) (these digit (drop (i + 1) s)))
unfolding value_from
number_more v s i h e =
    rw (these_one digit s i h e) (sym (capped_from (10 * v + (get_or s i 0 - 48)) (these digit (drop (i + 1) s))))

-- ---- words

pub before_most : (q : ℕ) (bs : List ℕ) → length (before q bs) ≤ length bs
unfolding before
before_most q [] = omega arith
before_most q (b ∷ bs) = go (eqb b q) (before_most q bs)
  where
    go : (t : Bool) → length (before q bs) ≤ length bs → length (cond t [] (b ∷ before q bs)) ≤ suc (length bs)
    go true h = omega arith
    go false h = omega arith

pub before_take : (q : ℕ) (bs : List ℕ) → take (length (before q bs)) bs ≡ before q bs
unfolding before
before_take q [] = refl
before_take q (b ∷ bs) = go (eqb b q) (before_take q bs)
  where
    go : (t : Bool) → take (length (before q bs)) bs ≡ before q bs → take (length (cond t [] (b ∷ before q bs))) (b ∷ bs) ≡ cond t [] (b ∷ before q bs)
    go true e = refl
    go false e = ap (λ (l : List ℕ). b ∷ l) e

-- ---- counting

pub counted_none : (n : ℕ) (s : Symbol) (k : ℕ) → n ≡ 0 → counted n s k ≡ Refuse (answer too_large)
unfolding counted
counted_none n s k e = rw e

pub counted_some : (n : ℕ) (s : Symbol) (k : ℕ) → (n ≡ 0 → ⊥) → counted n s k ≡ Keep s (behind s) k
unfolding counted
counted_some zero s k h = absurd (h refl)
counted_some (suc n) s k h = refl

-- ---- what stands at a place

module _ (s : List ℕ) (p : ℕ) (h : p < length s) where
  pub lexeme_here : lexeme_at s p ≡ lexeme (get_or s p 0) (drop (p + 1) s)
  unfolding lexeme_at
  lexeme_here = rw (lt-ltb p (length s) h)

pub turn_here : (n : ℕ) (c : Context) (s : List ℕ) (p : ℕ) → p < length s → turn_at n c s p ≡ turn n c (get_or s p 0) (drop (p + 1) s)
unfolding turn_at
turn_here n c s p h = rw (lt-ltb p (length s) h)

pub judged_large : (n : ℕ) (c : Context) (k : ℕ) (bs : List ℕ) → judged n c (Large k) bs ≡ judged 0 c (Large k) []
unfolding judged
judged_large n Opens k bs = refl
judged_large n Plain k bs = refl
judged_large n Remark k bs = refl

pub judged_nothing : (n : ℕ) (c : Context) (bs : List ℕ) → judged n c Nothing bs ≡ Refuse (answer no_symbol)
unfolding judged
judged_nothing n Opens bs = refl
judged_nothing n Plain bs = refl
judged_nothing n Remark bs = refl
