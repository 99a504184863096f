-- `jobs::deed_run` meets its contract: the numbers are those of run's answer.
-- Assumes nothing.
use Rattle.jobs.proofs.Given.{given_exit}
use Rattle.jobs.proofs.deed_run.Goals as goal

pub returns : goal.returns
returns c = given_exit _ _ _ c.run-ran.ensures c.answer.ensures c.place.ensures
