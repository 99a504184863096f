-- `jobs::deed_replay` meets its contract: the numbers are those of replay's answer.
-- Assumes nothing.
use Rattle.jobs.proofs.Given.{gone_done}
use Rattle.jobs.proofs.deed_replay.Goals as goal

pub returns : goal.returns
returns c = gone_done _ _ _ c.replay-replayed.ensures c.kind.ensures c.number.ensures c.place.ensures
