-- `comparing::comparing::learn` meets its contract: what the front end finds tells what the uses mean. Assumes nothing.
use Rattle.comparing.proofs.Told.{learns}
use Rattle.comparing.proofs.comparing.learn.Goals as goal

pub returns : goal.returns
returns c = learns c.find.ensures
