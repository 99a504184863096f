-- `types::walking::take` meets its contract: what its callees say, one behind the other.
use mathlib.Core.Path.{refl, ◌∙◌}
use native.Mathlib.Omega.{arith}
use Rattle.types.specs.model.Passes.{apart_of, taken_as}
use Rattle.types.proofs.Stacks.{both_ap, noted_ap}
use Rattle.types.proofs.walking.take.Goals as goal

pub returns : goal.returns
unfolding taken_as
returns c = record { by_index = λ u d b. c.note.ensures.b_value u _ d b ∙ noted_ap _ (c.apart.ensures ∙ both_ap apart_of c.top.ensures refl) (c.pop.ensures.b_value u _ d b); depth_le_depth = omega (arith, c.note.ensures.depth_value, c.pop.ensures.depth_le_depth) }
