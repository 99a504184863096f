-- `figures::digits::head` meets its contract: h is the number without its i lowest digits.
-- Assumes nothing.
use mathlib.Core.Path.{sym, ap, ◌∙◌}
use native.Mathlib.Nat.{le_antisymm}
use native.Mathlib.Omega.{arith}
use lib.ListN.{drop}
use Rattle.figures.specs.Digits.{value}
use Rattle.figures.proofs.Spelling.{none_left, value_div, head_step, head_fits}
use Rattle.figures.proofs.digits.head.Goals as goal

pub loop-i-init : goal.loop-i-init
loop-i-init c = (c.requires.j_bound.0, sym (none_left c.args.a.now 772 c.requires.number.size))

pub overflow_mul-h : goal.overflow_mul-h
overflow_mul-h c =
    let l = c.loop-i in
    omega (arith, head_fits c.args.a.now c.args.j l.i (omega (arith, c.requires.number.size)) c.loop-i-test.true c.requires.number.digits, l.invariant.1, c.requires.j_bound.1)

pub overflow_add-h : goal.overflow_add-h
overflow_add-h c =
    let l = c.loop-i in
    omega (arith, head_fits c.args.a.now c.args.j l.i (omega (arith, c.requires.number.size)) c.loop-i-test.true c.requires.number.digits, l.invariant.1, c.requires.j_bound.1, c.from.ensures)

pub loop-i-preserved : goal.loop-i-preserved
loop-i-preserved c =
    let l = c.loop-i in
    (omega arith, omega (arith, head_step c.args.a.now l.i (omega (arith, c.requires.number.size)) (omega arith), l.invariant.1, c.from.ensures))

pub returns : goal.returns
returns c =
    let l = c.loop-i in
    l.invariant.1 ∙ ap (λ n. value (drop n c.args.a.now)) (le_antisymm c.loop-i-test.false l.invariant.0) ∙ sym (value_div c.args.a.now c.args.j (omega (arith, c.requires.number.size, c.requires.j_bound)) c.requires.number.digits)
