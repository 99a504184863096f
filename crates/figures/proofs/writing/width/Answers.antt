-- `figures::writing::width` meets its contract: 0 takes a digit too.
-- Assumes nothing.
use Rattle.std.proofs.Common.{arith}
use Rattle.figures.specs.Written.{width}
use Rattle.figures.proofs.writing.width.Goals as goal

pub returns : goal.returns
unfolding width
returns c = omega arith
