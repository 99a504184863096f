-- `figures::fewest::enough` meets its contract: what is left to try from p on gives what there was from 1 on.
-- Assumes nothing.
use mathlib.Core.Path.{◌≡◌, refl, sym, ap, ◌∙◌}
use Prim.Native.Nat.{◌-◌, ◌*◌, ◌^◌}
use native.Mathlib.Omega.{arith}
use native.Mathlib.Nat.{le_antisymm}
use Rattle.figures.specs.Digits.{value}
use Rattle.figures.specs.Fewest.{least, between}
use Rattle.figures.proofs.Rounding.{nearest_fits, back_fits, enough_stop, enough_on, enough_end}
use Rattle.figures.proofs.fewest.enough.Goals as goal

pub loop-p-init : goal.loop-p-init
unfolding least
loop-p-init c = refl

pub nearest-requires : goal.nearest-requires
nearest-requires c =
    let r = c.requires.ready in
    record { number = c.requires.number; j_nonzero = nearest_fits _ _ _ c.args.t c.loop-p.p r c.loop-p.auto.p (c.loop-p.auto.p-end (omega arith)) }

pub gives_back-requires : goal.gives_back-requires
gives_back-requires c =
    let r = c.requires.ready in
    record { number = c.requires.number_2; number_2 = c.requires.number_3; j_bound = back_fits _ _ _ c.args.t c.loop-p.p r c.loop-p.auto.p (c.loop-p.auto.p-end (omega arith)) }

pub returns-then-gives_back : goal.returns-then-gives_back
returns-then-gives_back c =
    let a = c.args in
    let l = c.loop-p in
    let j = a.t - l.p in
    let e = ap (λ x. between (value a.low.now) (value a.high.now) (x * 10 ^ j)) (sym c.nearest.ensures) ∙ sym c.gives_back.ensures ∙ c.if-gives_back.true in
    sym (l.invariant ∙ enough_stop (value a.v.now) (value a.low.now) (value a.high.now) a.t l.p c.loop-p-test.true e)

pub loop-p-preserved : goal.loop-p-preserved
loop-p-preserved c =
    let a = c.args in
    let l = c.loop-p in
    let j = a.t - l.p in
    let e = ap (λ x. between (value a.low.now) (value a.high.now) (x * 10 ^ j)) (sym c.nearest.ensures) ∙ sym c.gives_back.ensures ∙ c.if-gives_back.false in
    l.invariant ∙ enough_on (value a.v.now) (value a.low.now) (value a.high.now) a.t l.p c.loop-p-test.true e

pub returns : goal.returns
returns c =
    let a = c.args in
    let l = c.loop-p in
    let e : l.p ≡ 17 = le_antisymm (l.auto.p-end (omega arith)) c.loop-p-test.false in
    sym e ∙ sym (l.invariant ∙ enough_end (value a.v.now) (value a.low.now) (value a.high.now) a.t l.p e)
