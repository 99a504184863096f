-- `vectors::twos::pairs` meets its contract. Each row is counted.
-- Assumes nothing.
use mathlib.Core.Path.{◌≡◌}
use Prim.Native.Nat.{◌/◌}
use native.Mathlib.Omega.{arith}
use lib.ListN.{length}
use Rattle.vectors.specs.declared.tally.Tally.{Tally}
use Rattle.vectors.specs.Listed.{nothing}
use Rattle.vectors.specs.Twos.{Pairs, none, more}
use Rattle.vectors.proofs.twos.pairs.Goals as goal

empty : (t : Tally) → t ≡ nothing → Pairs 0 t
empty t e = rw e none

pub loop-k-init : goal.loop-k-init
loop-k-init c = (omega arith, empty c.new-t.result c.new-t.ensures)

pub loop-k-preserved : goal.loop-k-preserved
loop-k-preserved c = (omega (arith, c.loop-k-test.true), more c.loop-k.invariant.1 c.row-t.ensures)

pub returns : goal.returns
returns c =
    let l = c.loop-k in
    let e : length c.args.index.now / 128 ≡ l.k = omega (arith, l.invariant.0, c.loop-k-test.false) in
    rw e l.invariant.1
