-- `emitting::flow::left` meets its contract: the instruction, then the block is closed, and the one around goes on.
-- Assumes nothing.
use mathlib.Core.Path.{ap, ◌∙◌}
use Rattle.emitting.specs.model.Emission.{State, put, popped, within, with_open}
use Rattle.emitting.proofs.flow.left.Goals as goal

pub returns : goal.returns
unfolding within popped with_open put
returns c =
    λ us op ah en. rw c.packed-cells.ensures.value at (ap (λ (z : State). within z.level z.loops c.args.c.fourth z) (c.pop-r.ensures.en_value us op _ ah en ∙ ap popped (c.put.ensures.en_after us op ah en)))
