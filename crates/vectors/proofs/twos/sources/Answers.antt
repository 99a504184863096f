-- `vectors::twos::sources` meets its contract. Each row is counted.
-- Assumes nothing.
use mathlib.Core.Path.{◌≡◌}
use mathlib.Core.Bool.{Bool}
use Prim.Native.Nat.{◌/◌}
use native.Mathlib.Omega.{arith}
use lib.ListN.{length}
use Rattle.vectors.specs.declared.tally.Tally.{Tally}
use Rattle.vectors.specs.Listed.{nothing}
use Rattle.vectors.specs.Twos.{Sources, no_source, one_source_lem}
use Rattle.vectors.proofs.twos.sources.Goals as goal

empty : (b : Bool) (t : Tally) → t ≡ nothing → Sources 0 b t
empty b t e = rw e no_source

pub loop-k-init : goal.loop-k-init
loop-k-init c = (omega arith, empty _ c.new-t.result c.new-t.ensures)

pub loop-k-preserved : goal.loop-k-preserved
loop-k-preserved c =
    let w = c.one-t.ensures in
    (omega (arith, c.loop-k-test.true), one_source_lem c.loop-k.invariant.1 w.0 c.one-t.result w.1)

pub returns : goal.returns
returns c =
    let l = c.loop-k in
    let e : length c.args.index.now / 49 ≡ l.k = omega (arith, l.invariant.0, c.loop-k-test.false) in
    rw e l.invariant.1
