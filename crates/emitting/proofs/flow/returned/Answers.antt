-- `emitting::flow::returned` meets its contract: the instruction, then an activation fewer is around.
-- Assumes nothing.
use mathlib.Core.Path.{ap, ◌∙◌}
use Prim.Native.Nat.{◌-◌}
use Rattle.emitting.specs.model.Emission.{State, put, popped, within, with_open, with_variable}
use Rattle.emitting.proofs.flow.returned.Goals as goal

pub returns : goal.returns
unfolding within popped with_open put with_variable
returns c =
    λ us op ah en. rw c.saturating_sub.ensures (ap (λ (z : State). with_variable z.awaits 1 (within (c.args.t.level - 1) c.args.c.first z.cells z)) (c.pop-r.ensures.en_value us op _ ah en ∙ ap popped (c.put.ensures.en_after us op ah en)))
