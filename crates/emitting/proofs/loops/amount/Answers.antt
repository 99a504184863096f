-- `emitting::loops::amount` meets its contract: by what is open it stands behind the step, or behind the bound.
-- Assumes nothing.
use mathlib.Core.Path.{sym, ap, subst, ◌∙◌}
use native.Mathlib.Omega.{arith}
use mathlib.Core.List.{[]}
use borrow.Author.Tests.{eq-eqb, ne_eqb}
use Rattle.emitting.specs.model.Emission.{Opened, State, top, below, popped, with_open, element, stepping, amount}
use Rattle.emitting.specs.model.Arrays.{seen, see, things_of, Slim}
use Rattle.emitting.proofs.Counters.{fit, slim_top}
use Rattle.emitting.proofs.LeftParts.{slim_below}
use Rattle.emitting.proofs.loops.amount.Goals as goal

pub step_held-requires : goal.step_held-requires
step_held-requires c = fit c.args.t c.args.things.now c.requires.0

pub returns-then-c-eq0 : goal.returns-then-c-eq0
unfolding amount
returns-then-c-eq0 c = λ vs ly es us en. simp (eq-eqb _ _ c.if-c-eq0.true) (c.step_held.ensures vs ly c.args.ahead.now es us en)

pub top-f-requires : goal.top-f-requires
top-f-requires c = let g = (fit c.args.t c.args.things.now c.requires.0).open_ones in let p = c.pop-around.ensures.alike.3 in omega arith

pub stepping-requires : goal.stepping-requires
unfolding popped with_open
stepping-requires c =
    let x = c.args.things.now in
    let g = (fit c.args.t x c.requires.0).at in
    let p = c.pop-around.ensures.alike.1 in
    let e = c.top-f.ensures ∙ ap (λ (z : State). top z.open_ones) (c.pop-around.ensures.en_value [] x [] [] []) in
    (omega arith, subst (Slim 262143) (sym e) (slim_top 262143 (below (things_of c.args.t.open x)) (slim_below 262143 (things_of c.args.t.open x) c.requires.0.things)), c.requires.1)

pub element-requires : goal.element-requires
element-requires c =
    let g = (fit c.args.t c.args.things.now c.requires.0).open_ones in
    let h = (fit c.args.t c.args.things.now c.requires.0).slots in
    let p = c.pop-around.ensures.alike.3 in
    let q = c.pop-around.ensures.alike.0.slots in
    let u = c.stepping.ensures.slots_value.0 in
    let v = c.stepping.ensures.slots_value.1 in
    (omega arith, omega arith)

pub returns : goal.returns
unfolding amount popped with_open
returns c =
    let x = c.args.things.now in
    let s = c.args.ahead.now in
    let k = seen c.args.c in
    let e = c.top-f.ensures ∙ ap (λ (z : State). top z.open_ones) (c.pop-around.ensures.en_value [] x [] [] []) in
    λ vs ly es us en.
    simp (ne_eqb _ _ c.if-c-eq0.false)
    (c.element.ensures vs ly s es us _ en
    ∙ ap (element vs ly s es (seen c.top-f.result)) (c.stepping.ensures.by_index vs ly es us x c.args.next_ahead.now en ∙ ap (stepping vs ly s es (seen c.top-f.result) k) (c.pop-around.ensures.en_value us x c.args.code.now c.args.next_ahead.now en))
    ∙ ap (λ (f : Opened). element vs ly s es f (stepping vs ly s es f k (popped (see c.args.t us x c.args.code.now c.args.next_ahead.now en)))) e)
