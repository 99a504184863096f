-- `vectors::runs::fresh_output` meets its contract. Each number is 9.
-- Assumes nothing.
use mathlib.Core.Path.{refl}
use Rattle.vectors.specs.Ended.{fresh_output}
use Rattle.vectors.proofs.runs.fresh_output.Goals as goal

pub returns : goal.returns
unfolding fresh_output
returns c = refl
