-- `asking::words::zeros_end` meets its contract. The zeros from `at` on are those passed and those from i on.
-- Assumes nothing.
use mathlib.Core.Path.{refl, ◌∙◌}
use native.Mathlib.Omega.{arith}
use Rattle.asking.proofs.Lines.{zeros_on, zeros_stop, zeros_past}
use Rattle.asking.proofs.words.zeros_end.Goals as goal

pub loop-i-init : goal.loop-i-init
loop-i-init c = refl

pub returns-then-line-i-ne0 : goal.returns-then-line-i-ne0
returns-then-line-i-ne0 c = omega (arith, zeros_stop c.args.line.now c.loop-i.i c.loop-i-test.true c.if-line-i-ne0.true)

pub loop-i-preserved : goal.loop-i-preserved
loop-i-preserved c = omega (arith, zeros_on c.args.line.now c.loop-i.i c.loop-i-test.true c.if-line-i-ne0.false)

pub returns : goal.returns
returns c =
    let l = c.loop-i in
    c.max.ensures ∙ zeros_past c.args.line.now c.args.at l.i l.auto.i l.auto.i-end c.loop-i-test.false l.invariant
