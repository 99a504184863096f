-- What the parser answers is what the relation `Run` says. One induction over the fuel; each kind of item has a law of its own, and an answer that
-- the fuel does not reach says nothing.
use Prim.Native.Nat.{ℕ, zero, suc, ◌+◌}
use mathlib.Core.Path.{◌≡◌, refl}
use mathlib.Core.Bool.{Bool, true, false, ◌||◌}
use mathlib.Core.List.{List, [], ◌∷◌}
use mathlib.Core.Option.{Option, none, some}
use native.Mathlib.Omega.{arith}
use lib.Dec.{eqb}
use borrow.Author.Tests.{eqb-true, eqb-false}
use Rattle.grammar.specs.Grammar.{Class, Item, sy, rd, Prod, rhs}
use Rattle.grammar.specs.Trees.{Syn}
use Rattle.grammar.specs.model.Tables.{Choice, none as no-choice, some as takes, choose}
use Rattle.grammar.specs.model.Run.{Res, got, bad, In, now, later, after, Goes, level, deep, Run, end, sy_no, sy_got, sy_bad, rd_six, rd_five, rd_none, rd_bad, rd_more, rd_got}
use Rattle.marks.specs.model.Parsing.{among, on_symbol, on_rest, on_part, on_choice, parse}

-- ---- a list of symbols

or_true : (a b : Bool) → (a || b) ≡ true → (a ≡ false → b ≡ true)
or_true true b h e = absurd (let z : ◌≡◌ {A = ℕ} 0 1 = cc in omega arith)
or_true false b h e = h

is_among : (c : ℕ) (l : List ℕ) → among c l ≡ true → In c l
unfolding among
is_among c [] h = absurd (let z : ◌≡◌ {A = ℕ} 0 1 = cc in omega arith)
is_among c (k ∷ l) h = go (eqb c k) refl (λ q. is_among c l q)
  where
    go : (t : Bool) → eqb c k ≡ t → (among c l ≡ true → In c l) → In c (k ∷ l)
    go true e u = now (eqb-true c k e)
    go false e u = later (u (or_true (eqb c k) (among c l) h e))

not_among : (c : ℕ) (l : List ℕ) → among c l ≡ false → In c l → ⊥
unfolding among
not_among c [] h i = elim i [ ]
not_among c (k ∷ l) h i = go (eqb c k) refl h i (λ q. not_among c l q)
  where
    go : (t : Bool) → eqb c k ≡ t → (t || among c l) ≡ false → In c (k ∷ l) → (among c l ≡ false → In c l → ⊥) → ⊥
    go true e q i u = let z : ◌≡◌ {A = ℕ} 0 1 = cc in omega arith
    go false e q (now x) u = eqb-false c k e x
    go false e q (later i) u = u q i

module _ (f : ℕ → ℕ) where
  -- an answer, if there is one, is the relation's
  abbrev pub Right : ℕ → List ℕ → (is : List Item) → ℕ → Option (Res (Syn is)) → Type 0
  Right d F is i none = Unit {0}
  Right d F is i (some r) = Run f d F is i r

  -- ---- the kinds of items

  module _ (d : ℕ) (F : List ℕ) (is : List Item) (i : ℕ) where
    on_symbol_lem : (k : ℕ) → f i ≡ k → (o : Option (Res (Syn is))) → Right d F is (i + 1) o → Right d F (sy k ∷ is) i (on_symbol o)
    on_symbol_lem k e none h = tt
    on_symbol_lem k e (some (got s j)) h = sy_got e h
    on_symbol_lem k e (some (bad n j)) h = sy_bad e h

    on_test : (k : ℕ) (t : Bool) → eqb (f i) k ≡ t → (o : Option (Res (Syn is))) → Right d F is (i + 1) o → Right d F (sy k ∷ is) i (elim t [ true ↦ on_symbol o | false ↦ some (bad 5 i) ])
    on_test k true e o h = on_symbol_lem k (eqb-true (f i) k e) o h
    on_test k false e o h = sy_no (eqb-false (f i) k e)

    on_limit : (X : Class) (t : Bool) → among (f i) (after (rd true X ∷ is) F) ≡ t → Right 0 F (rd true X ∷ is) i (elim t [ true ↦ some (bad 6 i) | false ↦ some (bad 5 i) ])
    on_limit X true e = rd_six (is_among (f i) (after (rd true X ∷ is) F) e)
    on_limit X false e = rd_five (not_among (f i) (after (rd true X ∷ is) F) e)

    module _ (b : Bool) (e : ℕ) (X : Class) (o : Goes b d e) where
      on_rest_lem : (p : Prod X) → choose X (f i) (f (i + 1)) ≡ takes p → (t : Syn (rhs p)) (j : ℕ) → Run f e (after is F) (rhs p) i (got t j) → (r : Option (Res (Syn is))) → Right d F is j r
          → Right d F (rd b X ∷ is) i (on_rest p t r)
      on_rest_lem p c t j v none h = tt
      on_rest_lem p c t j v (some (got s k)) h = rd_got o c v h
      on_rest_lem p c t j v (some (bad n k)) h = rd_more o c v h

      on_part_lem : (p : Prod X) → choose X (f i) (f (i + 1)) ≡ takes p → (r : Option (Res (Syn (rhs p)))) → Right e (after is F) (rhs p) i r
          → (rest : ℕ → Option (Res (Syn is))) → ((j : ℕ) → Right d F is j (rest j)) → Right d F (rd b X ∷ is) i (on_part p r rest)
      on_part_lem p c none h rest k = tt
      on_part_lem p c (some (got t j)) h rest k = on_rest_lem p c t j h (rest j) (k j)
      on_part_lem p c (some (bad n m)) h rest k = rd_bad o c h

      on_choice_lem : (c : Choice X) → choose X (f i) (f (i + 1)) ≡ c → (part : (p : Prod X) → Option (Res (Syn (rhs p)))) → ((p : Prod X) → Right e (after is F) (rhs p) i (part p))
          → (rest : ℕ → Option (Res (Syn is))) → ((j : ℕ) → Right d F is j (rest j)) → Right d F (rd b X ∷ is) i (on_choice i c part rest)
      on_choice_lem no-choice q part h rest k = rd_none o q
      on_choice_lem (takes p) q part h rest k = on_part_lem p q (part p) (h p) rest k

  -- ---- the parser

  pub runs : (n d : ℕ) (F : List ℕ) (is : List Item) (i : ℕ) → Right d F is i (parse f n d F is i)
  unfolding parse
  runs zero d F is i = tt
  runs (suc n) d F [] i = end
  runs (suc n) d F (sy k ∷ is) i = on_test d F is i k (eqb (f i) k) refl (parse f n d F is (i + 1)) (runs n d F is (i + 1))
  runs (suc n) d F (rd false X ∷ is) i =
      on_choice_lem d F is i false d X level (choose X (f i) (f (i + 1))) refl (λ p. parse f n d (after is F) (rhs p) i) (λ p. runs n d (after is F) (rhs p) i) (λ j. parse f n d F is j) (λ j. runs n d F is j)
  runs (suc n) zero F (rd true X ∷ is) i = on_limit 0 F is i X (among (f i) (after (rd true X ∷ is) F)) refl
  runs (suc n) (suc d) F (rd true X ∷ is) i =
      on_choice_lem (suc d) F is i true d X deep (choose X (f i) (f (i + 1))) refl (λ p. parse f n d (after is F) (rhs p) i) (λ p. runs n d (after is F) (rhs p) i) (λ j. parse f n (suc d) F is j) (λ j. runs n (suc d) F is j)
