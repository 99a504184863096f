-- `vectors::replays::Count::record` meets its contract. One run more.
-- Assumes nothing.
use Rattle.vectors.proofs.replays.Count.record.Goals as goal

pub returns : goal.returns
returns c = rw c.more.ensures
