-- `figures::digits::times_power` meets its contract: after so many turns the number has the factor to that power.
-- Assumes nothing.
use Rattle.std.proofs.Common.{◌*◌, ◌^◌, sym, ap, ◌∙◌, pow-suc, mul_assoc, mul-one, le_antisymm, add-one, arith}
use native.Mathlib.Nat.{pow-zero, add-zero}
use Rattle.figures.specs.Digits.{value}
use Rattle.figures.proofs.Spelling.{factor_fits}
use Rattle.figures.proofs.digits.times_power.Goals as goal

pub loop-init : goal.loop-init
loop-init c = (c.requires.number, sym (ap (λ x. value c.args.a.now * x) (pow-zero c.args.k) ∙ mul-one (value c.args.a.now)))

pub times-requires : goal.times-requires
times-requires c =
    let l = c.loop in
    record { number = l.invariant.0; k_bound = (c.requires.k_nonzero.1, omega arith, factor_fits (value c.args.a.now) c.args.k l.counter c.args.count (value l.a) (10 ^ 772) c.requires.k_nonzero.0 c.loop-test.true c.requires.k_nonzero.2 l.invariant.1) }

pub loop-preserved : goal.loop-preserved
loop-preserved c =
    let l = c.loop in
    let v = value c.args.a.now in
    let k = c.args.k in (
      c.times.ensures.number,
      c.times.ensures.spelt ∙ add-zero (value l.a * k) ∙ ap (λ x. x * k) l.invariant.1 ∙ mul_assoc v (k ^ l.counter) k ∙ ap (λ x. v * x) (sym (pow-suc k l.counter) ∙ ap (λ x. k ^ x) (sym (add-one l.counter))),
    )

pub returns : goal.returns
returns c =
    let l = c.loop in
    record { number = l.invariant.0; spelt = l.invariant.1 ∙ ap (λ x. value c.args.a.now * c.args.k ^ x) (le_antisymm l.auto.counter-end c.loop-test.false) }
