-- `paying::run::run_file` meets its contract. There is no input or no file, or its status is that of a run.
-- Assumes nothing.
use Rattle.paying.proofs.Running.{run_most}
use Rattle.paying.proofs.run.run_file.Goals as goal

pub returns : goal.returns
returns c = run_most c.run_source.ensures
