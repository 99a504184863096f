-- `vectors::tally::Tally::back` meets its contract. One more read back.
-- Assumes nothing.
use Rattle.vectors.proofs.tally.Tally.back.Goals as goal

pub returns : goal.returns
returns c = rw c.more.ensures
