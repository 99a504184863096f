-- `names::rows::has` meets its contract: a row is found exactly where there is one.
use mathlib.Core.Path.{ap, ◌∙◌}
use Rattle.std.specs.Option.{is_some}
use Rattle.names.proofs.RowLaws.{found_some}
use Rattle.names.proofs.rows.has.Goals as goal

pub returns : goal.returns
returns c = c.is_some.ensures ∙ ap is_some c.find.ensures ∙ found_some c.args.ids.now c.args.want c.args.rows.now
