-- `emitting::emit` meets its contract: the passes take the first words that are lent.
-- Assumes nothing.
use mathlib.Core.Path.{◌≡◌, refl, sym, ap, ◌∙◌}
use mathlib.Core.Bool.{Bool, true, false, cond}
use mathlib.Core.List.{List}
use native.Mathlib.Omega.{arith}
use Prim.Native.Nat.{ℕ, ◌*◌}
use lib.Dec.{ltb}
use lib.ListN.{length, take, length-take}
use lib.Seq.{take_all}
use borrow.Author.Tests.{ltb-false}
use Rattle.emitting.proofs.emit.Goals as goal

-- where there are 8,192 rows or more, all of them are lent
first_rows : (d : ℕ) (l : List ℕ) → length l ≡ 32768 → take (cond (ltb d 8192) (4 * d) 32768) l ≡ take (4 * d) l
first_rows d l h = go (ltb d 8192) refl
  where
    go : (b : Bool) → ltb d 8192 ≡ b → take (cond b (4 * d) 32768) l ≡ take (4 * d) l
    go true e = refl
    go false e = take_all 32768 l (omega arith) ∙ sym (take_all (4 * d) l (omega (arith, ltb-false d 8192 e)))

pub laid_out-requires : goal.laid_out-requires
laid_out-requires c =
    let a = c.args in
    omega (arith, ap length c.front.ensures, length-take a.n a.nodes.now, c.front-arg-1.given)

pub returns : goal.returns
returns c =
    let a = c.args in
    let r = c.front-3.ensures ∙ ap (λ (k : ℕ). take k a.rows.now) c.row_words.ensures ∙ first_rows a.d a.rows.now c.front-arg-3-1.given in
    rw (c.front.ensures, c.front-2.ensures, r) at c.laid_out.ensures
