-- `vectors::tally::Tally::again` meets its contract. One more written again.
-- Assumes nothing.
use Rattle.vectors.proofs.tally.Tally.again.Goals as goal

pub returns : goal.returns
returns c = rw c.more.ensures
