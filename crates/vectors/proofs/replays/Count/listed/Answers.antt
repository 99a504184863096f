-- `vectors::replays::Count::listed` meets its contract. One listed replay more.
-- Assumes nothing.
use Rattle.vectors.proofs.replays.Count.listed.Goals as goal

pub returns : goal.returns
returns c = rw c.more.ensures
