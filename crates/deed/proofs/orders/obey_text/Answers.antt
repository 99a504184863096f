-- `deed::orders::obey_text` meets its contract. A line that is no command is well done; of any other the status is what its words decide, or one of the three.
-- Assumes nothing.
use Rattle.deed.proofs.Decided.{one_of_three}
use Rattle.deed.proofs.orders.obey_text.Goals as goal

pub returns : goal.returns
returns c = one_of_three _ _ c.obey.ensures
