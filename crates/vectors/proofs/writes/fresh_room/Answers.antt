-- `vectors::writes::fresh_room` meets its contract. Each byte holds 7.
-- Assumes nothing.
use mathlib.Core.Path.{refl}
use Rattle.vectors.specs.Pages.{fresh_room}
use Rattle.vectors.proofs.writes.fresh_room.Goals as goal

pub returns : goal.returns
unfolding fresh_room
returns c = refl
