-- Request 7: the uses of a program behind a prelude. Those of the prelude's names get kind 4 in a loop of their own, which knows them by their places.
use Prim.Native.Nat.{ℕ, zero, suc, ◌+◌, ◌*◌, ◌≤◌, ◌<◌}
use native.Mathlib.Omega.{arith}
use mathlib.Core.Path.{◌≡◌, refl, ap, ◌∙◌}
use mathlib.Core.Bool.{Bool, true, false, not}
use mathlib.Core.List.{List, [], ◌∷◌, ◌++◌, map}
use lib.Dec.{eqb, ltb}
use lib.ListN.{length, get_or, set, take, drop, length-set}
use borrow.Author.Tests.{ne_eqb, lt-ltb, le-ltb}
use Rattle.names.specs.Uses.{Row, joined}
use Rattle.names.specs.Prelude.{fourth}
use Rattle.table.specs.Table.{use_words}
use Rattle.table.specs.model.Writing.{fourth_kind, fourths}

-- ---- the loop

-- three for each
abbrev three : ℕ → ℕ
three zero = 0
three (suc q) = suc (suc (suc (three q)))

three_is : (q : ℕ) → three q ≡ 3 * q
three_is zero = omega arith
three_is (suc q) = omega (arith, three_is q)

abbrev first : ℕ → List ℕ → List ℕ
first n old = fourths (take n old) ++ drop n old

untouched : (old : List ℕ) (q j d : ℕ) → three q ≤ length old → three q ≤ j → get_or (first (three q) old) j d ≡ get_or old j d
unfolding fourths
untouched old zero j d l h = refl
untouched (s ∷ k ∷ p ∷ ws) (suc q) (suc (suc (suc j))) d l h = untouched ws q j d (omega arith) (omega arith)
untouched (s ∷ k ∷ p ∷ ws) (suc q) (suc (suc zero)) d l h = absurd (omega arith)
untouched (s ∷ k ∷ p ∷ ws) (suc q) (suc zero) d l h = absurd (omega arith)
untouched (s ∷ k ∷ p ∷ ws) (suc q) zero d l h = absurd (omega arith)
untouched (s ∷ k ∷ []) (suc q) j d l h = absurd (omega arith)
untouched (s ∷ []) (suc q) j d l h = absurd (omega arith)
untouched [] (suc q) j d l h = absurd (omega arith)

more : (old : List ℕ) (q d : ℕ) → three (suc q) ≤ length old
    → set (first (three q) old) (suc (three q)) (fourth_kind (get_or old (suc (three q)) d) (get_or old (suc (suc (three q))) d)) ≡ first (three (suc q)) old
unfolding fourths
more (s ∷ k ∷ p ∷ ws) zero d l = refl
more (s ∷ k ∷ p ∷ ws) (suc q) d l = ap (λ (z : List ℕ). s ∷ fourth_kind k p ∷ p ∷ z) (more ws q d (omega arith))
more (s ∷ k ∷ []) q d l = absurd (omega arith)
more (s ∷ []) q d l = absurd (omega arith)
more [] q d l = absurd (omega arith)

no_more : (old : List ℕ) (q : ℕ) → three q ≤ length old → length old ≤ three q + 2 → first (three q) old ≡ fourths old
unfolding fourths
no_more [] zero l h = refl
no_more (s ∷ []) zero l h = refl
no_more (s ∷ k ∷ []) zero l h = refl
no_more (s ∷ k ∷ p ∷ ws) zero l h = absurd (omega arith)
no_more (s ∷ k ∷ p ∷ ws) (suc q) l h = ap (λ (z : List ℕ). s ∷ fourth_kind k p ∷ p ∷ z) (no_more ws q (omega arith) (omega arith))
no_more (s ∷ k ∷ []) (suc q) l h = absurd (omega arith)
no_more (s ∷ []) (suc q) l h = absurd (omega arith)
no_more [] (suc q) l h = absurd (omega arith)

-- the first i uses have their kinds
pub record Kinded (old new : List ℕ) (i : ℕ) : Type 0 where
  pub upper : 3 * i ≤ length old
  pub size : length new ≡ length old
  pub words : new ≡ first (three i) old

pub none_kinded : (old : List ℕ) → Kinded old old 0
unfolding fourths
none_kinded old = record { upper = omega arith; size = refl; words = refl }

still : {old new : List ℕ} {i j : ℕ} (d : ℕ) → Kinded old new i → 3 * i ≤ j → get_or new j d ≡ get_or old j d
still {old} {new} {i} {j} d r h = let q = three_is i in ap (λ (z : List ℕ). get_or z j d) r.words ∙ untouched old i j d (omega (arith, r.upper)) (omega arith)

pub one_kinded : {old new : List ℕ} {i v : ℕ} (d : ℕ) → Kinded old new i → 3 * i + 2 < length new → v ≡ fourth_kind (get_or new (3 * i + 1) d) (get_or new (3 * i + 2) d) → Kinded old (set new (3 * i + 1) v) (i + 1)
one_kinded {old} {new} {i} {v} d r h e =
    let q = three_is i in
    let q₁ : 3 * i + 1 ≡ suc (three i) = omega arith in
    let q₂ : 3 * i + 2 ≡ suc (suc (three i)) = omega arith in
    let q' : three (suc i) ≡ three (i + 1) = omega (arith, three_is (i + 1)) in
    let k₁ : get_or new (3 * i + 1) d ≡ get_or old (suc (three i)) d = still d r (omega arith) ∙ ap (λ (n : ℕ). get_or old n d) q₁ in
    let k₂ : get_or new (3 * i + 2) d ≡ get_or old (suc (suc (three i))) d = still d r (omega arith) ∙ ap (λ (n : ℕ). get_or old n d) q₂ in
    let e' : v ≡ fourth_kind (get_or old (suc (three i)) d) (get_or old (suc (suc (three i))) d) = rw (k₁, k₂) at e in
    record {
      upper = omega (arith, r.size);
      size = length-set new (3 * i + 1) v ∙ r.size;
      words = ap (λ (z : List ℕ). set z (3 * i + 1) v) r.words ∙ ap (λ (n : ℕ). set (first (three i) old) n v) q₁
          ∙ ap (λ (x : ℕ). set (first (three i) old) (suc (three i)) x) e' ∙ more old i d (omega (arith, r.size)) ∙ ap (λ (n : ℕ). first n old) q';
    }

pub all_kinded : {old new : List ℕ} {i : ℕ} → Kinded old new i → length new ≤ 3 * i + 2 → new ≡ fourths old
all_kinded {old} {new} {i} r l = r.words ∙ no_more old i (omega (arith, r.upper, three_is i)) (omega (arith, r.size, three_is i))

pub fourths_length : (ws : List ℕ) → length (fourths ws) ≡ length ws
unfolding fourths
fourths_length [] = refl
fourths_length (s ∷ []) = refl
fourths_length (s ∷ k ∷ []) = refl
fourths_length (s ∷ k ∷ p ∷ ws) = omega (arith, fourths_length ws)

-- the kind of one use
pub kind_none : (k p : ℕ) → k ≡ 0 → 0 ≡ fourth_kind k p
unfolding fourth_kind
kind_none k p e = rw e refl

pub kind_own : (k p : ℕ) → (k ≡ 0 → ⊥) → p < 32768 → k ≡ fourth_kind k p
unfolding fourth_kind
kind_own k p e l = rw (ne_eqb k 0 e, lt-ltb p 32768 l) refl

pub kind_four : (k p : ℕ) → (k ≡ 0 → ⊥) → 32768 ≤ p → 4 ≡ fourth_kind k p
unfolding fourth_kind
kind_four k p e l = rw (ne_eqb k 0 e, le-ltb p 32768 l) refl

-- ---- the law: where the places from 32,768 on are those of the first m symbols, these are the rows that a scheme's table has

module _ (place : ℕ → ℕ) (m : ℕ) (apart : (k : ℕ) → ltb (place k) 32768 ≡ not (ltb k m)) where
  row_words : (r : Row) (ws : List ℕ) → fourths (use_words place r ++ ws) ≡ use_words place (fourth m r) ++ fourths ws
  unfolding fourths fourth_kind use_words
  row_words r ws = go (eqb r.kind 0) refl (ltb r.means m) refl
    where
      go : (b : Bool) → eqb r.kind 0 ≡ b → (c : Bool) → ltb r.means m ≡ c → fourths (use_words place r ++ ws) ≡ use_words place (fourth m r) ++ fourths ws
      go true e c f = rw e refl
      go false e true f = rw (e, apart r.means, f) refl
      go false e false f = rw (e, apart r.means, f, e) refl

  pub fourth_rows : (rs : List Row) → fourths (joined (use_words place) rs) ≡ joined (use_words place) (map (fourth m) rs)
  unfolding joined fourths
  fourth_rows [] = refl
  fourth_rows (r ∷ rs) = row_words r (joined (use_words place) rs) ∙ ap (λ (z : List ℕ). use_words place (fourth m r) ++ z) (fourth_rows rs)
