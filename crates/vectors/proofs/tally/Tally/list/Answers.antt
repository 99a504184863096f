-- `vectors::tally::Tally::list` meets its contract. One list more.
-- Assumes nothing.
use Rattle.vectors.proofs.tally.Tally.list.Goals as goal

pub returns : goal.returns
returns c = rw c.more.ensures
