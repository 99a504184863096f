-- A parser that the prover can run: what `Run` of crate `grammar` says as a relation, computed with so much fuel; none where the fuel does not
-- reach. No part of the paper.
use Rattle.std.specs.Prelude.{ℕ, zero, suc, ◌+◌, Bool, true, false, ◌||◌, List, [], ◌∷◌, eqb}
use Rattle.std.proofs.Math.Option.{Option, none, some}
use Rattle.grammar.specs.Grammar.{Class, Item, sy, rd, Prod, rhs}
use Rattle.grammar.specs.Trees.{Syn, nil, tok, sub}
use Rattle.grammar.specs.model.Tables.{Choice, none as no-choice, some as takes, choose}
use Rattle.grammar.specs.model.Run.{Res, got, bad, after}

unfoldable pub among : ℕ → List ℕ → Bool
among c [] = false
among c (k ∷ l) = eqb c k || among c l

-- what a symbol, a node and a part come to, with what comes behind
abbrev pub on_symbol : {k : ℕ} {is : List Item} → Option (Res (Syn is)) → Option (Res (Syn (sy k ∷ is)))
on_symbol none = none
on_symbol (some (got s j)) = some (got (tok s) j)
on_symbol (some (bad n k)) = some (bad n k)

abbrev pub on_rest : {b : Bool} {X : Class} {is : List Item} (p : Prod X) → Syn (rhs p) → Option (Res (Syn is)) → Option (Res (Syn (rd b X ∷ is)))
on_rest p t none = none
on_rest p t (some (got s j)) = some (got (sub p t s) j)
on_rest p t (some (bad n k)) = some (bad n k)

abbrev pub on_part : {b : Bool} {X : Class} {is : List Item} (p : Prod X) → Option (Res (Syn (rhs p))) → (ℕ → Option (Res (Syn is))) → Option (Res (Syn (rd b X ∷ is)))
on_part p none rest = none
on_part p (some (got t j)) rest = on_rest p t (rest j)
on_part p (some (bad n k)) rest = some (bad n k)

-- the production chosen, if there is one, is read from i on
abbrev pub on_choice : {b : Bool} {X : Class} {is : List Item} → ℕ → Choice X → ((p : Prod X) → Option (Res (Syn (rhs p)))) → (ℕ → Option (Res (Syn is))) → Option (Res (Syn (rd b X ∷ is)))
on_choice i no-choice part rest = some (bad 5 i)
on_choice i (takes p) part rest = on_part p (part p) rest

module _ (f : ℕ → ℕ) where
  -- fuel; the levels left; what may follow; the items; the next symbol's number
  unfoldable pub parse : ℕ → ℕ → List ℕ → (is : List Item) → ℕ → Option (Res (Syn is))
  parse zero d F is i = none
  parse (suc n) d F [] i = some (got nil i)
  parse (suc n) d F (sy k ∷ is) i = elim (eqb (f i) k) [ true ↦ on_symbol (parse n d F is (i + 1)) | false ↦ some (bad 5 i) ]
  parse (suc n) d F (rd false X ∷ is) i = on_choice i (choose X (f i) (f (i + 1))) (λ p. parse n d (after is F) (rhs p) i) (λ j. parse n d F is j)
  parse (suc n) zero F (rd true X ∷ is) i = elim (among (f i) (after (rd true X ∷ is) F)) [ true ↦ some (bad 6 i) | false ↦ some (bad 5 i) ]
  parse (suc n) (suc d) F (rd true X ∷ is) i = on_choice i (choose X (f i) (f (i + 1))) (λ p. parse n d (after is F) (rhs p) i) (λ j. parse n (suc d) F is j)
