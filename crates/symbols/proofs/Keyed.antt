-- Words found by first letter and length. Bytes that are the same but for letter case share both, so a search in a table may leave out the words that do not share
-- them; which words are left is computed from the table.
use mathlib.Core.Path.{◌≡◌, refl, sym, ap, ◌∙◌}
use mathlib.Core.Bool.{Bool, true, false, cond, not, ◌&&◌, ◌||◌}
use mathlib.Core.List.{List, [], ◌∷◌, ◌++◌}
use Prim.Native.Nat.{ℕ, suc}
use Prim.Native.String.{String}
use lib.Dec.{eqb}
use lib.ListN.{length, get_or}
use borrow.Author.Tests.{ne_eqb, eqb-true, eqb-false, not-false}
use Rattle.symbols.specs.Text.{bytes}
use Rattle.symbols.specs.Names.{equal, folded, same_name}
use Rattle.symbols.specs.Symbols.{Delimiter, words}
use Rattle.symbols.specs.Scan.{spelled}
use Rattle.std.specs.Prelude.{Some, None}
use Rattle.symbols.proofs.Laws.{both}
use Rattle.symbols.proofs.LetterCase.{same_length, same_cons}

-- ---- no two words of the table but 'then' and 'true' share first letter and length

abbrev shares : List ℕ → List ℕ → Bool
shares w v = eqb (folded (get_or w 0 0)) (folded (get_or v 0 0)) && eqb (length w) (length v)

record Pair : Type 0 where
  one : String
  other : String

-- a word with each of those behind it that share both with it; and all such pairs of a table
abbrev with : Delimiter → List Delimiter → List Pair
with x [] = []
with x (y ∷ l) =
    let rest = with x l in
    cond (shares (bytes x.spelling) (bytes y.spelling)) (record { one = x.spelling; other = y.spelling } ∷ rest) rest

abbrev pairs : List Delimiter → List Pair
pairs [] = []
pairs (x ∷ l) = with x l ++ pairs l

pub one_pair : pairs words ≡ record { one = "then"; other = "true" } ∷ []
unfolding folded
one_pair = refl

-- ---- a search among some words of a table

abbrev pub among : (List ℕ → Bool) → List Delimiter → List Delimiter
among test [] = []
among test (x ∷ l) = let rest = among test l in cond (test (bytes x.spelling)) (x ∷ rest) rest

no_and : (t : Bool) → (t && false) ≡ false
no_and true = refl
no_and false = refl

-- the same but for letter case, they share both
unlike : (w v : List ℕ) → shares w v ≡ false → same_name w v ≡ false
unfolding same_name equal folded
unlike [] [] h = h
unlike [] (y ∷ v) h = refl
unlike (x ∷ w) [] h = refl
unlike (x ∷ w) (y ∷ v) h = same_cons x y w v ∙ go (eqb (folded x) (folded y)) h
  where
    go : (t : Bool) → (t && eqb (length (x ∷ w)) (length (y ∷ v))) ≡ false → (t && same_name w v) ≡ false
    go true e = same_length w v (λ k. eqb-false (length (x ∷ w)) (length (y ∷ v)) e (ap suc k))
    go false e = refl

-- words that do not share both may be left out
search_among : (test : List ℕ → Bool) (l : List Delimiter) (w : List ℕ) → ((v : List ℕ) → test v ≡ false → shares w v ≡ false)
    → spelled l w ≡ spelled (among test l) w
unfolding spelled
search_among test [] w h = refl
search_among test (x ∷ l) w h = go (test (bytes x.spelling)) refl (search_among test l w h)
  where
    go : (t : Bool) → test (bytes x.spelling) ≡ t → spelled l w ≡ spelled (among test l) w
        → cond (same_name w (bytes x.spelling)) (Some x.symbol) (spelled l w) ≡ spelled (cond t (x ∷ among test l) (among test l)) w
    go true e f = rw f refl
    go false e f = rw (unlike w (bytes x.spelling) (h (bytes x.spelling) e)) f

-- ---- the words of a table with this first letter, of this length and of another

abbrev pub opening : ℕ → List Delimiter → List Delimiter
opening c = among (λ v. eqb c (folded (get_or v 0 0)))

abbrev pub sized : ℕ → List Delimiter → List Delimiter
sized n = among (λ v. eqb n (length v))

abbrev pub unsized : ℕ → List Delimiter → List Delimiter
unsized n = among (λ v. not (eqb n (length v)))

module _ (l : List Delimiter) (w : List ℕ) where
  pub by_letter : (c : ℕ) → folded (get_or w 0 0) ≡ c → spelled l w ≡ spelled (opening c l) w
  by_letter c e = search_among (λ v. eqb c (folded (get_or v 0 0))) l w (λ v h. rw (e, h) refl)

  pub by_length_lem : (n : ℕ) → length w ≡ n → spelled l w ≡ spelled (sized n l) w
  by_length_lem n e = search_among (λ v. eqb n (length v)) l w (λ v h. rw (e, h) (no_and (eqb (folded (get_or w 0 0)) (folded (get_or v 0 0)))))

  pub by_other_length : (n : ℕ) → (length w ≡ n → ⊥) → spelled l w ≡ spelled (unsized n l) w
  by_other_length n h =
      search_among _ l w (λ v e.
      let f = sym (eqb-true n (length v) (not-false (eqb n (length v)) e)) in
      rw (ne_eqb (length w) (length v) (λ k. h (k ∙ f))) (no_and (eqb (folded (get_or w 0 0)) (folded (get_or v 0 0)))))

-- the letter is known, and the length too; or that it is another than one, or than two
module _ (l : List Delimiter) (w : List ℕ) (c : ℕ) (e : folded (get_or w 0 0) ≡ c) where
  pub of_length : (n : ℕ) → length w ≡ n → spelled l w ≡ spelled (sized n (opening c l)) w
  of_length n h = by_letter l w c e ∙ by_length_lem (opening c l) w n h

  pub of_another : (n : ℕ) → (length w ≡ n → ⊥) → spelled l w ≡ spelled (unsized n (opening c l)) w
  of_another n h = by_letter l w c e ∙ by_other_length (opening c l) w n h

  pub of_neither : (n m : ℕ) → (length w ≡ n → ⊥) → (length w ≡ m → ⊥) → spelled l w ≡ spelled (unsized m (unsized n (opening c l))) w
  of_neither n m h k = of_another n h ∙ by_other_length (unsized n (opening c l)) w m k

-- a search in any table finds what a search by first letter and length finds
pub by_key : (l : List Delimiter) (w : List ℕ) → spelled l w ≡ spelled (sized (length w) (opening (folded (get_or w 0 0)) l)) w
by_key l w = by_letter l w (folded (get_or w 0 0)) refl ∙ by_length_lem (opening (folded (get_or w 0 0)) l) w (length w) refl

-- ---- bytes that begin as no word does

abbrev member : ℕ → List ℕ → Bool
member c [] = false
member c (k ∷ ks) = eqb c k || member c ks

-- every word of a table begins with one of these letters, in small
abbrev covers : List ℕ → List Delimiter → Bool
covers ks [] = true
covers ks (x ∷ l) = member (folded (get_or (bytes x.spelling) 0 0)) ks && covers ks l

-- a byte is none of these letters
abbrev NoneOf : List ℕ → ℕ → Type 0
NoneOf [] c = Unit {0}
NoneOf (k ∷ ks) c = NoneOf ks c × (c ≡ k → ⊥)

outside : (ks : List ℕ) (c d : ℕ) → member d ks ≡ true → NoneOf ks c → c ≡ d → ⊥
outside [] c d h r e = eqb-false 0 0 (sym h) refl
outside (k ∷ ks) c d h r e = go (eqb d k) refl h (λ g. outside ks c d g r.0 e)
  where
    go : (t : Bool) → eqb d k ≡ t → (t || member d ks) ≡ true → (member d ks ≡ true → ⊥) → ⊥
    go true f g later = r.1 (e ∙ eqb-true d k f)
    go false f g later = later g

pub elsewhere : (ks : List ℕ) (l : List Delimiter) (w : List ℕ) (c : ℕ) → folded (get_or w 0 0) ≡ c → covers ks l ≡ true → NoneOf ks c → spelled l w ≡ None
unfolding spelled
elsewhere ks [] w c e h r = refl
elsewhere ks (x ∷ l) w c e h r =
    let v = bytes x.spelling in
    let b = both (member (folded (get_or v 0 0)) ks) (covers ks l) h in
    let n = ne_eqb (folded (get_or w 0 0)) (folded (get_or v 0 0)) (λ f. outside ks c (folded (get_or v 0 0)) b.0 r (sym e ∙ f)) in
    rw (unlike w v (rw n refl)) (elsewhere ks l w c e b.1 r)
