-- `names::rows::says` meets its contract: the last word of the row that is found.
use mathlib.Core.Path.{ap, ◌∙◌}
use Rattle.names.specs.declared.Row.{Row}
use Rattle.names.proofs.RowLaws.{said_here, said_nowhere}
use Rattle.names.proofs.rows.says.Goals as goal

pub returns-in-Some : goal.returns-in-Some
returns-in-Some c =
    let a = c.args in
    ap (λ (r : Row). r.sort) c.row.ensures ∙ said_here a.ids.now a.want a.rows.now c.in-Some.d c.in-Some.ensures

pub returns-in-None : goal.returns-in-None
returns-in-None c =
    let a = c.args in
    said_nowhere a.ids.now a.want a.rows.now c.in-None.ensures
