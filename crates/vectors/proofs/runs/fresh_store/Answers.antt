-- `vectors::runs::fresh_store` meets its contract. Each number is 7.
-- Assumes nothing.
use mathlib.Core.Path.{refl}
use Rattle.vectors.specs.Ended.{fresh_store}
use Rattle.vectors.proofs.runs.fresh_store.Goals as goal

pub returns : goal.returns
unfolding fresh_store
returns c = refl
