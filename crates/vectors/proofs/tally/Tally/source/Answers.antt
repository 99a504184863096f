-- `vectors::tally::Tally::source` meets its contract. One source more.
-- Assumes nothing.
use Rattle.vectors.proofs.tally.Tally.source.Goals as goal

pub returns : goal.returns
returns c = rw c.more.ensures
