-- `walking::body_end`: where none is open, none is left.
use Rattle.types.specs.model.Passes.{with_bodies}
use Rattle.types.proofs.Stacks.{opens_below}
use Rattle.types.proofs.walking.body_end.Goals as goal

pub returns : goal.returns
unfolding with_bodies
returns c = λ u s d b. rw (c.saturating_sub.ensures, opens_below c.args.t.bodies b)
