-- `types::walking::binary` meets its contract: what its callees say, one behind the other.
use mathlib.Core.Path.{ap, ◌∙◌}
use mathlib.Core.Bool.{◌||◌}
use Rattle.types.specs.model.Arrays.{see}
use Rattle.types.specs.model.Passes.{top_of, popped, unfit_of, gives_sort, first_of, operated_as}
use Rattle.types.proofs.Stacks.{both_ap, noted_ap, pushed_ap, stack_popped}
use Rattle.types.proofs.walking.binary.Goals as goal

pub returns : goal.returns
unfolding operated_as first_of
returns c =
    λ u d b.
    let s = c.top-second.ensures in
    let f = (c.top-first.ensures ∙ ap top_of (stack_popped (see c.args.t u c.args.stack.now d b) (c.pop-one.ensures.b_value u _ d b))) in
    c.push.ensures u d b
    ∙ pushed_ap (c.gives.ensures ∙ both_ap (gives_sort c.args.kind) f s)
    (c.note-both.ensures.b_value u _ d b
    ∙ noted_ap _ (c.unfit_one.ensures ∙ both_ap (λ x y. unfit_of c.args.kind x || unfit_of c.args.kind y) f s) (c.pop.ensures.b_value u _ d b ∙ ap popped (c.pop-one.ensures.b_value u _ d b)))
