-- `vectors::lists::is_said` meets its contract. Each test is one of its tests. Assumes nothing.
use mathlib.Core.Path.{◌≡◌, ◌∙◌}
use Prim.Native.Nat.{ℕ}
use lib.Dec.{eqb}
use mathlib.Core.Bool.{false}
use borrow.Author.Tests.{eq-eqb, ne_eqb}
use Rattle.checking.specs.Numbers.{kind_of, number_of, place_of}
use Rattle.checking.specs.declared.Checked.{Checked}
use Rattle.vectors.specs.Sent.{said_by}
use Rattle.vectors.proofs.lists.is_said.Goals as goal

module _ (c : Checked) (k n p a : ℕ) (kind : a ≡ kind_of c) where
  other-kind : (a ≡ k → ⊥) → false ≡ said_by c k n p
  other-kind h = rw (ne_eqb (kind_of c) k (λ e. h (kind ∙ e)))

  module _ (same : a ≡ k) (b : ℕ) (number : b ≡ number_of c) where
    other-number : (b ≡ n → ⊥) → false ≡ said_by c k n p
    other-number h =
        let e : kind_of c ≡ k = cc in
        rw (eq-eqb (kind_of c) k e, ne_eqb (number_of c) n (λ e. h (number ∙ e)))

    by_place : b ≡ n → (d : ℕ) → d ≡ place_of c → eqb d p ≡ said_by c k n p
    by_place h d q =
        let e : kind_of c ≡ k = cc in
        let f : number_of c ≡ n = cc in
        rw (eq-eqb (kind_of c) k e, eq-eqb (number_of c) n f, q)

pub returns-then-kind : goal.returns-then-kind
returns-then-kind c =
    let a = c.args in
    other-kind a.c a.kind a.number a.place c.kind.result c.kind.ensures c.if-kind.true

pub returns-then-number : goal.returns-then-number
returns-then-number c =
    let a = c.args in
    other-number a.c a.kind a.number a.place c.kind.result c.kind.ensures c.if-kind.false c.number.result
    c.number.ensures c.if-number.true

pub returns : goal.returns
returns c =
    let a = c.args in
    by_place a.c a.kind a.number a.place c.kind.result c.kind.ensures c.if-kind.false
    c.number.result c.number.ensures c.if-number.false c.place.result c.place.ensures
