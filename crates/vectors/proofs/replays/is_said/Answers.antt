-- `vectors::replays::is_said` meets its contract. Each test is one of its tests. Assumes nothing.
use mathlib.Core.Path.{◌≡◌, ◌∙◌}
use Prim.Native.Nat.{ℕ}
use lib.Dec.{eqb}
use mathlib.Core.Bool.{false}
use borrow.Author.Tests.{eq-eqb, ne_eqb}
use Rattle.records.specs.Numbers.{kind_of, place_of}
use Rattle.records.specs.declared.Replayed.{Replayed}
use Rattle.vectors.specs.Months.{said_by}
use Rattle.vectors.proofs.replays.is_said.Goals as goal

module _ (c : Replayed) (k p a : ℕ) (kind : a ≡ kind_of c) where
  other-kind : (a ≡ k → ⊥) → false ≡ said_by c k p
  other-kind h = rw (ne_eqb (kind_of c) k (λ e. h (kind ∙ e)))

  by_place : a ≡ k → (d : ℕ) → d ≡ place_of c → eqb d p ≡ said_by c k p
  by_place h d q =
      let e : kind_of c ≡ k = cc in
      rw (eq-eqb (kind_of c) k e, q)

pub returns-then-kind : goal.returns-then-kind
returns-then-kind c =
    let x = c.args in
    other-kind x.a x.kind x.place c.kind.result c.kind.ensures c.if-kind.true

pub returns : goal.returns
returns c =
    let x = c.args in
    by_place x.a x.kind x.place c.kind.result c.kind.ensures c.if-kind.false c.place.result c.place.ensures
