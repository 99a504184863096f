-- `vectors::lists::fresh_list` meets its contract. Each number is 0.
-- Assumes nothing.
use mathlib.Core.Path.{refl}
use Rattle.vectors.specs.Sent.{fresh_list}
use Rattle.vectors.proofs.lists.fresh_list.Goals as goal

pub returns : goal.returns
unfolding fresh_list
returns c = refl
