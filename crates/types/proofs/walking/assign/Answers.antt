-- `types::walking::assign` meets its contract: what its callees say, one behind the other.
use mathlib.Core.Path.{refl, ◌∙◌}
use Rattle.types.specs.model.Passes.{apart_of, assigned_as, with_left}
use Rattle.types.proofs.Stacks.{both_ap, noted_ap}
use Rattle.types.proofs.walking.assign.Goals as goal

pub returns : goal.returns
unfolding assigned_as with_left
returns c = λ u d b. c.note.ensures.b_value u _ d b ∙ noted_ap _ (c.apart.ensures ∙ both_ap apart_of refl c.top.ensures) (c.pop.ensures.b_value u _ d b)
