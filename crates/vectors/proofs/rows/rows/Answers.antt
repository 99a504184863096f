-- `vectors::rows::rows` meets its contract. Each row is counted, as it is and in capitals.
-- Assumes nothing.
use mathlib.Core.Path.{◌≡◌}
use Prim.Native.Nat.{ℕ, ◌/◌}
use native.Mathlib.Omega.{arith}
use lib.ListN.{length}
use Rattle.vectors.specs.declared.tally.Tally.{Tally}
use Rattle.vectors.specs.Listed.{nothing}
use Rattle.vectors.specs.Counted.{Rows, none, more, CapitalRows, none_raised, raised}
use Rattle.vectors.proofs.rows.rows.Goals as goal

empty : (P : ℕ → Tally → Type 0) (t : Tally) → t ≡ nothing → P 0 nothing → P 0 t
empty P t e h = rw e h

pub loop-k-init : goal.loop-k-init
loop-k-init c =
    let e = c.new-t.ensures in
    (omega arith, empty Rows c.new-t.result.plain e.0 none, empty CapitalRows c.new-t.result.capitals e.1 none_raised)

pub loop-k-preserved : goal.loop-k-preserved
loop-k-preserved c =
    let l = c.loop-k in
    let w = c.row-t.ensures in
    let r = c.row-t.result in
    (omega (arith, c.loop-k-test.true), more l.invariant.1 w.0 w.1 r.plain w.2, raised l.invariant.2 w.0 w.1 r.capitals w.3)

pub returns : goal.returns
returns c =
    let l = c.loop-k in
    let e : length c.args.index.now / 49 ≡ l.k = omega (arith, l.invariant.0, c.loop-k-test.false) in
    rw e (l.invariant.1, l.invariant.2)
