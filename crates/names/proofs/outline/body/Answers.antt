-- `names::outline::body` meets its contract: what it looks up and notes is what `bodied` has.
use Rattle.names.proofs.OutlineLaws.{bodied_is}
use Rattle.names.proofs.outline.body.Goals as goal

pub returns-clause-stack_value : goal.returns-clause-stack_value
returns-clause-stack_value c =
    let a = c.args in
    let wrong = rw c.first.ensures at c.missing-wrong.ensures in
    bodied_is a.o a.rows.now a.stack.now _ _ _ _ c.here-scope.ensures wrong c.noted_if.ensures
