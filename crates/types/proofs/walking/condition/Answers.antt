-- `types::walking::condition` meets its contract: what its callees say, one behind the other.
use mathlib.Core.Path.{ap, ◌∙◌}
use Rattle.types.specs.model.Passes.{pushed, condition_as}
use Rattle.types.proofs.walking.condition.Goals as goal

pub returns : goal.returns
unfolding condition_as
returns c = λ u d b. c.push.ensures u d b ∙ ap (pushed _) (c.take.ensures.by_index u d b)
