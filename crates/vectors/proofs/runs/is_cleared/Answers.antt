-- `vectors::runs::is_cleared` meets its contract. The numbers of the cells are inside the store; they are compared, then those behind them.
-- Assumes nothing.
use mathlib.Core.Path.{◌≡◌, sym, ◌∙◌}
use mathlib.Core.Bool.{Bool, true, false}
use mathlib.Core.List.{List}
use Prim.Native.Nat.{ℕ, ◌*◌, ◌/◌, ◌≤◌, min}
use native.Mathlib.Omega.{arith}
use lib.IntN.{ℤ, pos}
use lib.ListN.{length, take, drop}
use lib.Seq.{length-take-le}
use Rattle.vectors.specs.Ended.{all_are, cleared}
use Rattle.vectors.proofs.runs.is_cleared.Goals as goal

-- so many numbers are the cells'
module _ (store : List ℤ) (k : ℕ) (cells : k ≡ min (length store / 2) 8192) where
  inside : 2 * k ≤ length store
  inside = omega (arith, cells)

  other-cell : all_are (pos 0) (take (2 * k) store) ≡ false → false ≡ cleared store
  unfolding cleared
  other-cell e =
      let f : all_are (pos 0) (take (2 * min (length store / 2) 8192) store) ≡ false = rw cells at e in
      rw f

  zero-cells : all_are (pos 0) (take (2 * k) store) ≡ true → (r : Bool) → r ≡ all_are (pos 7) (drop (2 * k) store) → r ≡ cleared store
  unfolding cleared
  zero-cells e r h =
      let f : all_are (pos 0) (take (2 * min (length store / 2) 8192) store) ≡ true = rw cells at e in
      let g : r ≡ all_are (pos 7) (drop (2 * min (length store / 2) 8192) store) = rw cells at h in
      rw f g

pub overflow_mul-n : goal.overflow_mul-n
overflow_mul-n c = omega (arith, c.clipped-n.ensures)

pub slice_bounds-all_are-end : goal.slice_bounds-all_are-end
slice_bounds-all_are-end c = sym (length-take-le _ _ (inside c.args.store.now c.clipped-n.result c.clipped-n.ensures))

pub returns-then-all_are : goal.returns-then-all_are
returns-then-all_are c =
    let k = c.clipped-n in
    zero-cells c.args.store.now k.result k.ensures (sym c.all_are.ensures ∙ c.if-all_are.true) c.all_are-then-all_are.result c.all_are-then-all_are.ensures

pub returns-else-all_are : goal.returns-else-all_are
returns-else-all_are c =
    let k = c.clipped-n in
    c.if-all_are.false ∙ other-cell c.args.store.now k.result k.ensures (sym c.all_are.ensures ∙ c.if-all_are.false)
