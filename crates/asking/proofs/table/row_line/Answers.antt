-- `asking::table::row_line` meets its contract. The rows are the words of the table.
-- Assumes nothing.
use Rattle.asking.proofs.Choices.{row_of_table}
use Rattle.asking.proofs.table.row_line.Goals as goal

pub returns : goal.returns
returns c = rw (row_of_table c.args.word.now) c.row_in.ensures
