-- `names::outline::mark` meets its contract: it notes 9, or tells the rows.
-- Assumes nothing.
use mathlib.Core.Path.{refl}
use Rattle.names.proofs.OutlineLaws.{again_is, said_is}
use Rattle.names.proofs.outline.mark.Goals as goal

pub returns-then-again : goal.returns-then-again
returns-then-again c =
    let a = c.args in
    record { by_index = λ stack. again_is a.o a.rows.now stack a.ids.now a.want a.again _ a.word a.symbol.number c.if-again.true c.noted.ensures; rows_value = (refl, refl) }

pub returns : goal.returns
returns c =
    let a = c.args in
    record { by_index = λ stack. said_is a.o a.rows.now stack a.ids.now _ a.want a.again a.word a.symbol.number c.if-again.false c.say.ensures; rows_value = (refl, refl) }
