-- `figures::writing::put` meets its contract: one store.
-- Assumes nothing.
use native.Mathlib.Omega.{arith}
use Rattle.figures.proofs.Rows.{puts_one}
use Rattle.figures.proofs.writing.put.Goals as goal

pub overflow_add-result : goal.overflow_add-result
overflow_add-result c = omega arith

pub returns : goal.returns
returns c = puts_one c.args.row.now c.args.at c.args.b c.requires
