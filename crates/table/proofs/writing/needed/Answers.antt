-- `table::writing::needed` meets its contract: three words for a use, four for a row and for a node, and three counts. Assumes nothing.
use native.Mathlib.Omega.{arith}
use Rattle.table.proofs.Written.{table_size}
use Rattle.table.proofs.writing.needed.Goals as goal

pub returns : goal.returns
returns c = λ place rows uses. omega (arith, c.uses_among.ensures.value, table_size place rows c.args.own.now c.args.nodes.now uses)
