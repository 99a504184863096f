-- `names::outline::formal` meets its contract: what it declares and notes is what `formalled` has.
-- Assumes nothing.
use Rattle.names.proofs.OutlineLaws.{formalled_is}
use Rattle.names.proofs.outline.formal.Goals as goal

pub returns : goal.returns
returns c =
    let a = c.args in
    let d = c.declare-p in record { stack_after = formalled_is a.o a.rows.now a.stack.now d.result a.ids.now _ _ _ _ _ _ c.word-unsaid.ensures c.identity_of.ensures c.identity_of-2.ensures c.noted_if.ensures d.ensures.stack_after; by_index = λ i w. let v = d.ensures.by_index i w in record { rows = v.rows; around = v.around } }
