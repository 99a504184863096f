-- No other number is a logical value's.
use mathlib.Core.Path.{ap}
use Prim.Native.Nat.{ℕ}
use lib.Dec.{eqb}
use Rattle.reals.specs.declared.Value.TheVariants.{Truth}
use Rattle.machine.specs.Data.{push}
use Rattle.machine.specs.Instructions.{low}
use Rattle.machine.proofs.Execs.{logical_is}
use Rattle.machine.proofs.Numbers.{fills_push, quick_as}
use Rattle.machine.proofs.quick.logical.Goals as goal

pub returns : goal.returns
returns c =
    let args = c.args in
    quick_as args.at args.live args.n args.store.now _ args.own.now c.fill.result (λ q. logical_is q (low args.v) (rw c.low-b.ensures at c.if-b-gt1.false)) (c.fill.ensures (λ q. push q (Truth (eqb (low args.v) 1))) (fills_push (ap (λ (n : ℕ). Truth (eqb n 1)) c.low-b.ensures)))
