-- `comparing::comparing::differs` meets its contract. Assumes nothing.
use mathlib.Core.Path.{◌∙◌}
use mathlib.Core.Bool.{not}
use native.Mathlib.Omega.{arith}
use Rattle.comparing.specs.Comparing.{agree}
use Rattle.comparing.proofs.Steps.{first_ended, second_ended, both_there}
use Rattle.comparing.proofs.comparing.differs.Goals as goal

pub returns-then-uses-i : goal.returns-then-uses-i
returns-then-uses-i c =
    let a = c.args in
    first_ended a.rows.now a.uses.now a.other_rows.now a.others.now a.i c.if-uses-i.true

pub returns-then-others-i : goal.returns-then-others-i
returns-then-others-i c =
    let a = c.args in
    second_ended a.rows.now a.uses.now a.other_rows.now a.others.now a.i c.if-others-i.true

pub returns : goal.returns
returns c =
    let a = c.args in
    let e = c.sense.ensures in
    let f = c.sense-2.ensures in
    c.ne.ensures ∙ (λ i. not (agree (e i) (f i))) ∙ both_there a.rows.now a.uses.now a.other_rows.now a.others.now a.i (omega arith) (omega arith)
