-- `syntax::clauses::further` meets its contract: the symbols left fall. Assumes nothing.
use Prim.Native.Nat.{◌-◌}
use lib.ListN.{length}
use Rattle.grammar.specs.model.Text.{text}
use Rattle.syntax.proofs.clauses.+further.Given as goal

abbrev pub decreases-further : goal.decreases-further
decreases-further l = length (text l.kinds.now) - l.pos
