-- `syntax::clauses::right` meets its contract: the symbols left fall. Assumes nothing.
use Prim.Native.Nat.{◌-◌}
use lib.ListN.{length}
use Rattle.grammar.specs.model.Text.{text}
use Rattle.syntax.proofs.clauses.+right.Given as goal

abbrev pub decreases-right : goal.decreases-right
decreases-right l = length (text l.kinds.now) - l.becomes
