-- `types::walking::mark` meets its contract: the two parts and the 'if' below them, as they stand on the stack.
use mathlib.Core.Path.{ap, ◌∙◌}
use mathlib.Core.List.{[]}
use lib.ListN.{set}
use Rattle.types.specs.model.Arrays.{see}
use borrow.Author.Tests.{eq-eqb, ne_eqb}
use Rattle.types.specs.model.Passes.{wide_of, top_of, below, first_of, mark_of}
use Rattle.types.proofs.Stacks.{both_ap, stack_popped}
use Rattle.types.proofs.walking.mark.Goals as goal

pub returns-then-kind-ne-CONDITION_END : goal.returns-then-kind-ne-CONDITION_END
unfolding mark_of
returns-then-kind-ne-CONDITION_END c = simp (ne_eqb _ _ c.if-kind-ne-CONDITION_END.true)

pub returns : goal.returns
unfolding mark_of first_of
returns c =
    let one = stack_popped (see c.args.t [] c.args.stack.now [] []) (c.pop-one.ensures.b_value [] _ [] []) in
    let two = stack_popped (see c.pop-one.result [] c.args.stack.now [] []) (c.pop.ensures.b_value [] _ [] []) in
    rw (eq-eqb _ _ c.if-kind-ne-CONDITION_END.false)
    (c.keep.ensures
    ∙ both_ap (set c.args.marks.now) (c.from.ensures ∙ c.top-symbol.ensures ∙ ap top_of (two ∙ ap below one)) (c.wide.ensures ∙ both_ap wide_of (c.top-first.ensures ∙ ap top_of one) c.top-second.ensures))
