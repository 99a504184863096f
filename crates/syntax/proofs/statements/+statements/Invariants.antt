-- Statements, blocks and declarations: each reader's answer is its production read aloud; the symbols left fall, or the depth rises.
-- Assumes nothing.
use Prim.Native.Nat.{◌+◌, ◌-◌, ◌*◌}
use lib.ListN.{length}
use Rattle.grammar.specs.model.Text.{text}
use Rattle.syntax.proofs.statements.+statements.Given as goal

abbrev pub decreases-alternative : goal.decreases-alternative
decreases-alternative l = 16 * (length (text l.kinds.now) - l.pos)

abbrev pub decreases-block : goal.decreases-block
decreases-block l = 16 * (length (text l.kinds.now) - l.pos) + 1

abbrev pub decreases-conditional : goal.decreases-conditional
decreases-conditional l = 16 * (length (text l.kinds.now) - l.pos)

abbrev pub decreases-consequence : goal.decreases-consequence
decreases-consequence l = 16 * (length (text l.kinds.now) - l.pos) + 3

abbrev pub decreases-declaration : goal.decreases-declaration
decreases-declaration l = 16 * (length (text l.kinds.now) - l.pos) + 1

abbrev pub decreases-declarations : goal.decreases-declarations
decreases-declarations l = 16 * (length (text l.kinds.now) - l.pos) + 3

abbrev pub decreases-declared : goal.decreases-declared
decreases-declared l = 16 * (length (text l.kinds.now) - l.pos)

abbrev pub decreases-head : goal.decreases-head
decreases-head l = 16 * (length (text l.kinds.now) - l.pos) + 2

abbrev pub decreases-inner : goal.decreases-inner
decreases-inner l = 16 * (length (text l.kinds.now) - l.begin)

abbrev pub decreases-nested_statement : goal.decreases-nested_statement
decreases-nested_statement l = 16 * (length (text l.kinds.now) - l.pos) + 4

abbrev pub decreases-procedure : goal.decreases-procedure
decreases-procedure l = 16 * (length (text l.kinds.now) - l.pos)

abbrev pub decreases-repetition : goal.decreases-repetition
decreases-repetition l = 16 * (length (text l.kinds.now) - l.pos)

abbrev pub decreases-statement : goal.decreases-statement
decreases-statement l = 16 * (length (text l.kinds.now) - l.pos) + 3

abbrev pub decreases-statements : goal.decreases-statements
decreases-statements l = 16 * (length (text l.kinds.now) - l.pos)

abbrev pub decreases-tail : goal.decreases-tail
decreases-tail l = 16 * (length (text l.kinds.now) - l.pos) + 5

abbrev pub decreases-unconditional : goal.decreases-unconditional
decreases-unconditional l = 16 * (length (text l.kinds.now) - l.pos) + 2
