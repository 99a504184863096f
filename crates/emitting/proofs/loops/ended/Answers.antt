-- `emitting::loops::ended` meets its contract: back to the position noted, and one for statement fewer is around.
-- Assumes nothing.
use mathlib.Core.Path.{ap, ◌∙◌}
use Prim.Native.Nat.{◌+◌}
use lib.ListN.{set}
use Rattle.emitting.specs.model.Layout.{packed}
use Rattle.emitting.specs.model.Emission.{State, put, within, noted, popped, with_open}
use Rattle.emitting.proofs.loops.ended.Goals as goal

pub returns : goal.returns
unfolding within noted popped with_open put
returns c =
    let w = set c.args.next_ahead.now c.args.f.first (packed 0 0 (c.args.t.here.at + 1)) in
    λ us op en. rw (c.set_word.ensures, c.going_to.ensures.value)
    (rw (c.packed.ensures.value, c.saturating_sub-around.ensures) at (c.pop.ensures.en_value us op _ w en ∙ ap (λ (z : State). popped (within z.level c.saturating_sub-around.result z.cells z)) (c.put-r.ensures.en_after us op w en)))
