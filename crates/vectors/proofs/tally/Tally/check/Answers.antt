-- `vectors::tally::Tally::check` meets its contract. One difference more where something is not the same.
-- Assumes nothing.
use Rattle.vectors.proofs.tally.Tally.check.Goals as goal

pub returns : goal.returns
returns c = rw (c.more.ensures, c.if-same.false)
