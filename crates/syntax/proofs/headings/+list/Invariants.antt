-- `syntax::headings::list` meets its contract: the symbols left fall. Assumes nothing.
use Prim.Native.Nat.{◌-◌}
use lib.ListN.{length}
use Rattle.grammar.specs.model.Text.{text}
use Rattle.syntax.proofs.headings.+list.Given as goal

abbrev pub decreases-list : goal.decreases-list
decreases-list l = length (text l.kinds.now) - l.pos
