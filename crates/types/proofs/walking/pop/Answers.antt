-- `walking::pop`: where there is no type, none is taken away.
use Rattle.types.specs.model.Passes.{popped, with_stack}
use Rattle.types.proofs.Stacks.{opens_below}
use Rattle.types.proofs.walking.pop.Goals as goal

pub returns-clause-b_value : goal.returns-clause-b_value
unfolding popped with_stack
returns-clause-b_value c = λ u s d b. rw (c.saturating_sub.ensures, opens_below c.args.t.depth s)
