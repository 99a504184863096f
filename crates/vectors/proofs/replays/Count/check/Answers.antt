-- `vectors::replays::Count::check` meets its contract. One difference more where something is not the same.
-- Assumes nothing.
use Rattle.vectors.proofs.replays.Count.check.Goals as goal

pub returns : goal.returns
returns c = rw (c.more.ensures, c.if-same.false)
