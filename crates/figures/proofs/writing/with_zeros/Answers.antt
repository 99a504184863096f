-- `figures::writing::with_zeros` meets its contract: after so many turns as many zeros are on.
-- Assumes nothing.
use mathlib.Core.Path.{sym, ap, ◌∙◌}
use Prim.Native.Nat.{◌*◌, ◌^◌}
use native.Mathlib.Omega.{arith}
use native.Mathlib.Numerals.{add-one}
use native.Mathlib.Nat.{mul-one, mul_assoc, pow-suc, le_antisymm}
use lib.Dec.{lit<}
use Rattle.figures.proofs.Spelling.{factor_fits}
use Rattle.figures.proofs.writing.with_zeros.Goals as goal

pub loop-init : goal.loop-init
loop-init c = (sym (mul-one c.args.c))

pub overflow_mul-all : goal.overflow_mul-all
overflow_mul-all c = omega (arith, factor_fits c.args.c 10 c.loop.counter c.args.k c.loop.all (2 ^ 64) (lit< tt) c.loop-test.true c.requires c.loop.invariant)

pub loop-preserved : goal.loop-preserved
loop-preserved c =
    let a = c.args in
    let l = c.loop in
    (ap (λ x. x * 10) l.invariant ∙ mul_assoc a.c (10 ^ l.counter) 10 ∙ ap (λ x. a.c * x) (sym (pow-suc 10 l.counter) ∙ ap (λ x. 10 ^ x) (sym (add-one l.counter))))

pub returns : goal.returns
returns c = c.loop.invariant ∙ ap (λ x. c.args.c * 10 ^ x) (le_antisymm c.loop.auto.counter-end c.loop-test.false)
