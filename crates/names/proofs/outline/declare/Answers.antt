-- `names::outline::declare` meets its contract: what it looks up, notes and puts is what `declared` has.
use Rattle.names.proofs.OutlineLaws.{declared_is}
use Rattle.names.proofs.outline.declare.Goals as goal

pub returns-clause-stack_after : goal.returns-clause-stack_after
returns-clause-stack_after c =
    let a = c.args in
    let again = rw c.first.ensures at c.has-again.ensures in
    declared_is a.o a.rows.now a.stack.now a.ids.now c.put.new.rows _ _ _ _ _ _ c.rows_here-want.ensures again c.noted_if.ensures c.put.ensures
