-- `asking::table::row_in` meets its contract. The row is the first that is named so.
-- Assumes nothing.
use mathlib.Core.Path.{sym}
use Rattle.asking.proofs.Choices.{row_found}
use Rattle.asking.proofs.table.row_in.Goals as goal

pub returns : goal.returns
returns c = rw (sym (row_found c.args.table.now c.args.word.now c.first-w.result c.first-w.ensures)) c.line_of.ensures
