-- `emitting::flow::entered` meets its contract: the instruction, then the block is open with no variable so far.
-- Assumes nothing.
use mathlib.Core.Path.{ap, ◌∙◌}
use Rattle.emitting.specs.model.Emission.{State, pushed, within, with_open, with_slot, with_variable, nameless}
use Rattle.emitting.proofs.flow.entered.Goals as goal

pub returns : goal.returns
unfolding within with_slot with_open pushed nameless with_variable
returns c =
    let t = c.args.t in
    λ us co ah en. ap (λ (z : State). nameless (within z.level z.loops 0 z)) (c.slot-s.ensures us _ co ah en ∙ ap with_slot (c.push.ensures.en_after us co ah en))
