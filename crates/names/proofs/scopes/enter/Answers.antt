-- `names::scopes::enter` meets its contract: the word written is the new head.
use native.Mathlib.Omega.{arith}
use Rattle.names.proofs.RowLaws.{opens_enter}
use Rattle.names.proofs.scopes.enter.Goals as goal

pub returns-clause-stack_after : goal.returns-clause-stack_after
returns-clause-stack_after c = opens_enter c.args.o.depth c.args.stack.now _ (omega arith)
