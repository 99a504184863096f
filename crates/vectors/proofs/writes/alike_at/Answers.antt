-- `vectors::writes::alike_at` meets its contract. The kinds are compared, then what they name.
-- Assumes nothing.
use mathlib.Core.Path.{◌≡◌, sym, ◌∙◌}
use mathlib.Core.Bool.{true, false}
use mathlib.Core.List.{List}
use Prim.Native.Nat.{ℕ, ◌+◌}
use lib.Dec.{eqb}
use lib.ListN.{get_or}
use borrow.Author.Tests.{eq-eqb, ne_eqb}
use Rattle.vectors.specs.Pages.{declaration_at, alike_at}
use Rattle.vectors.proofs.writes.alike_at.Goals as goal

module _ (a b : List ℕ) (at k l : ℕ) (first : k ≡ get_or a (at + 1) 0) (second : l ≡ get_or b (at + 1) 0) where
  other-kind : (k ≡ l → ⊥) → false ≡ alike_at a b at
  unfolding alike_at
  other-kind h =
      let e : eqb (get_or a (at + 1) 0) (get_or b (at + 1) 0) ≡ false = ne_eqb (get_or a (at + 1) 0) (get_or b (at + 1) 0) (λ q. h (first ∙ q ∙ sym second)) in
      rw e

  module _ (same : k ≡ l) (x y : ℕ) (one : x ≡ get_or a (at + 2) 0) (two : y ≡ get_or b (at + 2) 0) where
    kinds : eqb (get_or a (at + 1) 0) (get_or b (at + 1) 0) ≡ true
    kinds = eq-eqb (get_or a (at + 1) 0) (get_or b (at + 1) 0) (sym first ∙ same ∙ second)

    of-environment : k ≡ 0 → eqb x y ≡ alike_at a b at
    unfolding alike_at
    of-environment h =
        let e : eqb (get_or a (at + 1) 0) 0 ≡ true = eq-eqb (get_or a (at + 1) 0) 0 (sym first ∙ h) in
        rw (kinds, e, one, two)

    of-declaration : (k ≡ 0 → ⊥) → (d e : ℕ) → d ≡ declaration_at a x → e ≡ declaration_at b y → eqb d e ≡ alike_at a b at
    unfolding alike_at
    of-declaration h d e p q =
        let z : eqb (get_or a (at + 1) 0) 0 ≡ false = ne_eqb (get_or a (at + 1) 0) 0 (λ w. h (first ∙ w)) in
        rw (kinds, z, p, q, one, two)

pub returns-then-kind-word : goal.returns-then-kind-word
returns-then-kind-word c =
    let args = c.args in
    other-kind args.a.now args.b.now args.at c.word-kind.result c.word.result c.word-kind.ensures.value c.word.ensures.value c.if-kind-word.true

pub returns-then-kind-eq0 : goal.returns-then-kind-eq0
returns-then-kind-eq0 c =
    let args = c.args in
    of-environment args.a.now args.b.now args.at c.word-kind.result c.word.result c.word-kind.ensures.value c.word.ensures.value c.if-kind-word.false c.word-x.result c.word-y.result c.word-x.ensures.value c.word-y.ensures.value c.if-kind-eq0.true

pub returns : goal.returns
returns c =
    let args = c.args in
    of-declaration args.a.now args.b.now args.at c.word-kind.result c.word.result c.word-kind.ensures.value c.word.ensures.value c.if-kind-word.false c.word-x.result c.word-y.result c.word-x.ensures.value c.word-y.ensures.value c.if-kind-eq0.false c.declaration_at.result c.declaration_at-2.result c.declaration_at.ensures c.declaration_at-2.ensures
