-- `types::walking::conditional` meets its contract: what its callees say, one behind the other.
use mathlib.Core.Path.{ap, ◌∙◌}
use Rattle.types.specs.model.Arrays.{see}
use Rattle.types.specs.model.Passes.{apart_of, armed_of, top_of, popped, first_of, chosen_as}
use Rattle.types.proofs.Stacks.{both_ap, noted_ap, pushed_ap, stack_popped}
use Rattle.types.proofs.walking.conditional.Goals as goal

pub returns : goal.returns
unfolding chosen_as first_of
returns c =
    λ u d b.
    let s = c.top-second.ensures in
    let f = (c.top-first.ensures ∙ ap top_of (stack_popped (see c.args.t u c.args.stack.now d b) (c.pop-one.ensures.b_value u _ d b))) in
    c.push.ensures u d b
    ∙ pushed_ap (c.armed.ensures ∙ both_ap armed_of f s)
    (c.note-both.ensures.b_value u _ d b
    ∙ noted_ap _ (c.apart.ensures ∙ both_ap apart_of f s)
    (c.pop-2.ensures.b_value u _ d b ∙ ap popped (c.pop.ensures.b_value u _ d b ∙ ap popped (c.pop-one.ensures.b_value u _ d b))))
