-- `names::scopes::leave` meets its contract: where none is open, none is left.
use Rattle.names.proofs.RowLaws.{opens_leave}
use Rattle.names.proofs.scopes.leave.Goals as goal

pub returns-clause-by_index : goal.returns-clause-by_index
returns-clause-by_index c = λ s. rw c.saturating_sub.ensures (opens_leave c.args.o.depth s)
