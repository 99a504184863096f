-- `types::walking::unary` meets its contract: what its callees say, one behind the other.
use mathlib.Core.Path.{refl, ap, ◌∙◌}
use Rattle.types.specs.model.Passes.{sign_gives_sort, signed_as}
use Rattle.types.proofs.Stacks.{pushed_ap, taken_ap}
use Rattle.types.proofs.walking.unary.Goals as goal

pub returns : goal.returns
unfolding signed_as
returns c =
    λ u d b. c.push.ensures u d b
    ∙ pushed_ap (c.sign_gives-sort.ensures ∙ ap (sign_gives_sort _) c.top.ensures) (c.take.ensures.by_index u d b ∙ taken_ap _ c.sign_takes.ensures refl)
