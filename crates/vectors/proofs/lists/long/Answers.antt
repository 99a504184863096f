-- `vectors::lists::long` meets its contract. A number of 32 bits is the same in 64. Assumes nothing.
use mir.Syntax.{w32, w64}
use Rattle.reals.proofs.Signed.{wide_same, wide_fits}
use Rattle.vectors.proofs.lists.long.Goals as goal

pub overflow_cast-result : goal.overflow_cast-result
overflow_cast-result c = wide_fits w32 w64 tt c.ranges.x

pub returns : goal.returns
returns c = wide_same w32 w64 tt c.ranges.x
