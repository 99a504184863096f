-- `vectors::tally::Tally::most` meets its contract. The test compares the two products.
-- Assumes nothing.
use mathlib.Core.Path.{sym}
use Prim.Native.Nat.{◌*◌, ◌≤◌, ◌<◌}
use borrow.Author.Tests.{lt-ltb, le-ltb}
use Rattle.vectors.specs.Listed.{most_of}
use Rattle.vectors.proofs.tally.Tally.most.Goals as goal

pub returns-then-product : goal.returns-then-product
unfolding most_of
returns-then-product c =
    let a = c.args in
    let h : a.self.done * a.steps < a.done * a.self.steps = rw (sym c.product.ensures, sym c.product-2.ensures) c.if-product.true in
    rw (lt-ltb _ _ h)

pub returns-else-product : goal.returns-else-product
unfolding most_of
returns-else-product c =
    let a = c.args in
    let h : a.done * a.self.steps ≤ a.self.done * a.steps = rw (sym c.product.ensures, sym c.product-2.ensures) c.if-product.false in
    rw (le-ltb _ _ h)
