-- `vectors::tally::Tally::run` meets its contract. One run more.
-- Assumes nothing.
use Rattle.vectors.proofs.tally.Tally.run.Goals as goal

pub returns : goal.returns
returns c = rw c.more.ensures
