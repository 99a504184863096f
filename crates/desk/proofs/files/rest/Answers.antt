-- `desk::files::rest` meets its contract. What was read behind the first bytes lies in the room too.
-- Assumes nothing.
use Rattle.io.proofs.Counting.{prefix_len_of_le}
use borrow.Author.Rules.{rules}
use Rattle.desk.proofs.files.rest.Goals as goal

pub returns : goal.returns
returns c = prefix_len_of_le _ _ (search rules)
