-- `vectors::tally::Tally::page` meets its contract. One page more.
-- Assumes nothing.
use Rattle.vectors.proofs.tally.Tally.page.Goals as goal

pub returns : goal.returns
returns c = rw c.more.ensures
