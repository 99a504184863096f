-- `desk::files::arguments` meets its contract. The words end within the line.
-- Assumes nothing.
use Rattle.io.proofs.Counting.{prefix_len_of_le}
use borrow.Author.Rules.{rules}
use Rattle.desk.proofs.files.arguments.Goals as goal

pub returns : goal.returns
returns c = prefix_len_of_le _ _ (search rules)
