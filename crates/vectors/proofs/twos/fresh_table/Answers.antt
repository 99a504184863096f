-- `vectors::twos::fresh_table` meets its contract. Each word is 7.
-- Assumes nothing.
use mathlib.Core.Path.{refl}
use Rattle.vectors.specs.Twos.{fresh_table}
use Rattle.vectors.proofs.twos.fresh_table.Goals as goal

pub returns : goal.returns
unfolding fresh_table
returns c = refl
