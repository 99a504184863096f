-- `syntax::headings::specifications` meets its contract: the symbols left fall. Assumes nothing.
use Prim.Native.Nat.{◌-◌}
use lib.ListN.{length}
use Rattle.grammar.specs.model.Text.{text}
use Rattle.syntax.proofs.headings.+specifications.Given as goal

abbrev pub decreases-specifications : goal.decreases-specifications
decreases-specifications l = length (text l.kinds.now) - l.pos
