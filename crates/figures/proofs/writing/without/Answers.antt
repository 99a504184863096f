-- `figures::writing::without` meets its contract: after so many turns as many digits are off.
-- Assumes nothing.
use mathlib.Core.Path.{sym, ap, ◌∙◌}
use Prim.Native.Nat.{◌/◌, ◌^◌}
use native.Mathlib.Numerals.{add-one}
use native.Mathlib.Nat.{div-one, div-div-eq-div-mul, pow-suc, le_antisymm}
use Rattle.figures.proofs.writing.without.Goals as goal

pub loop-init : goal.loop-init
loop-init c = (sym (div-one c.args.c))

pub loop-preserved : goal.loop-preserved
loop-preserved c =
    let a = c.args in
    let l = c.loop in
    (ap (λ x. x / 10) l.invariant ∙ div-div-eq-div-mul a.c (10 ^ l.counter) 10 ∙ ap (λ x. a.c / x) (sym (pow-suc 10 l.counter) ∙ ap (λ x. 10 ^ x) (sym (add-one l.counter))))

pub returns : goal.returns
returns c = c.loop.invariant ∙ ap (λ x. c.args.c / 10 ^ x) (le_antisymm c.loop.auto.counter-end c.loop-test.false)
