-- `table::writing::node_place` meets its contract. The kinds without a symbol are the four that the match names.
-- Assumes nothing.
use mathlib.Core.Path.{◌≡◌, ap, ◌∙◌}
use mathlib.Core.Bool.{true, false, cond}
use mathlib.Core.Logic.{◌⊎◌, inl, inr}
use Prim.Native.Nat.{ℕ}
use borrow.Author.Tests.{ne_eqb}
use Rattle.table.specs.Table.{has_none}
use Rattle.table.specs.model.Writing.{place_of}
use Rattle.table.proofs.writing.node_place.Goals as goal

module _ (place : ℕ → ℕ) (k : ℕ) where
  without : (k ≡ 4) ⊎ ((k ≡ 13) ⊎ ((k ≡ 17) ⊎ (k ≡ 21))) → true ≡ has_none place k
  unfolding has_none
  without (inl e) = simp e
  without (inr (inl e)) = simp e
  without (inr (inr (inl e))) = simp e
  without (inr (inr (inr e))) = simp e

  with-one : ((k ≡ 4) ⊎ ((k ≡ 13) ⊎ ((k ≡ 17) ⊎ (k ≡ 21))) → ⊥) → false ≡ has_none place k
  unfolding has_none
  with-one h = simp (ne_eqb k 4 (λ e. h (inl e)), ne_eqb k 13 (λ e. h (inr (inl e))), ne_eqb k 17 (λ e. h (inr (inr (inl e)))), ne_eqb k 21 (λ e. h (inr (inr (inr e)))))

pub returns-in-4 : goal.returns-in-4
returns-in-4 c =
    let args = c.args in
    ap (λ b. cond b 0 (place_of args.places.now args.symbol.number)) (without (place_of args.places.now) args.kind c.in-4.is)

pub returns-in_default : goal.returns-in_default
returns-in_default c =
    c.place_word.ensures
    ∙ ap (λ b. cond b 0 (place_of c.args.places.now c.args.symbol.number)) (with-one (place_of c.args.places.now) c.args.kind c.in_default.in_default-own.rest.1)
