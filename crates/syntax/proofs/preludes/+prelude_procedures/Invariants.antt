use Prim.Native.Nat.{◌-◌}
use lib.ListN.{length}
use Rattle.grammar.specs.model.Text.{text}
use Rattle.syntax.proofs.preludes.+prelude_procedures.Given as goal

abbrev pub decreases-prelude : goal.decreases-prelude
decreases-prelude l = length (text l.kinds.now) - l.pos

abbrev pub decreases-procedures : goal.decreases-procedures
decreases-procedures l = length (text l.kinds.now) - l.pos
