-- Expressions: each reader's answer is its production read aloud; the symbols left fall, or at one symbol the binding does.
-- Assumes nothing.
use Prim.Native.Nat.{◌+◌, ◌-◌, ◌*◌}
use lib.ListN.{length}
use Rattle.grammar.specs.model.Text.{text}
use Rattle.syntax.proofs.Choices as C
use Rattle.syntax.proofs.expressions.+expressions.Given as goal

abbrev pub decreases-actual : goal.decreases-actual
decreases-actual l = 32 * (length (text l.kinds.now) - l.pos) + 19

abbrev pub decreases-actuals : goal.decreases-actuals
decreases-actuals l = 32 * (length (text l.kinds.now) - l.name)

abbrev pub decreases-chain : goal.decreases-chain
decreases-chain l = 32 * (length (text l.kinds.now) - l.pos) + C.rank l.l + 1

abbrev pub decreases-comparison : goal.decreases-comparison
decreases-comparison l = 32 * (length (text l.kinds.now) - l.pos)

abbrev pub decreases-condition : goal.decreases-condition
decreases-condition l = 32 * (length (text l.kinds.now) - l.pos)

abbrev pub decreases-expression : goal.decreases-expression
decreases-expression l = 32 * (length (text l.kinds.now) - l.pos) + 17

abbrev pub decreases-further_actuals : goal.decreases-further_actuals
decreases-further_actuals l = 32 * (length (text l.kinds.now) - l.pos)

abbrev pub decreases-more : goal.decreases-more
decreases-more l = 32 * (length (text l.kinds.now) - l.pos)

abbrev pub decreases-negation : goal.decreases-negation
decreases-negation l = 32 * (length (text l.kinds.now) - l.pos) + 8

abbrev pub decreases-nested : goal.decreases-nested
decreases-nested l = 32 * (length (text l.kinds.now) - l.pos) + 18

abbrev pub decreases-nested_simple : goal.decreases-nested_simple
decreases-nested_simple l = 32 * (length (text l.kinds.now) - l.pos) + 17

abbrev pub decreases-operand : goal.decreases-operand
decreases-operand l = 32 * (length (text l.kinds.now) - l.pos) + C.rank l.l

abbrev pub decreases-otherwise : goal.decreases-otherwise
decreases-otherwise l = 32 * (length (text l.kinds.now) - l.pos)

abbrev pub decreases-primary : goal.decreases-primary
decreases-primary l = 32 * (length (text l.kinds.now) - l.pos) + 1

abbrev pub decreases-relation : goal.decreases-relation
decreases-relation l = 32 * (length (text l.kinds.now) - l.pos) + 7

abbrev pub decreases-sum : goal.decreases-sum
decreases-sum l = 32 * (length (text l.kinds.now) - l.pos) + 6
