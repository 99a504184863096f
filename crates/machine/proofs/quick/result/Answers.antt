-- The type is that of whole numbers.
use native.Mathlib.Omega.{arith}
use Rattle.reals.specs.declared.Form.TheVariants.{Wholes}
use Rattle.machine.specs.Data.{reserve}
use Rattle.machine.specs.Instructions.{low, DO}
use Rattle.machine.proofs.Numbers.{fills_reserve, form_whole, quick_as}
use Rattle.machine.proofs.quick.result.Goals as goal

pub returns : goal.returns
returns c =
    let args = c.args in
    quick_as args.at args.live args.n args.store.now _ args.own.now c.fill.result (λ q. form_whole (low args.v) (λ t. DO (reserve q t)) (omega (arith, c.low.ensures, c.if-low-gt0.false))) (c.fill.ensures (λ q. reserve q Wholes) (fills_reserve Wholes))
