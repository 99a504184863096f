-- `vectors::replays::Count::replay` meets its contract. One replay more.
-- Assumes nothing.
use Rattle.vectors.proofs.replays.Count.replay.Goals as goal

pub returns : goal.returns
returns c = rw c.more.ensures
