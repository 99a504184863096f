-- `emitting::flow::otherwise` meets its contract: the address is noted, the instruction written, and another slot is open.
-- Assumes nothing.
use mathlib.Core.Path.{ap, ◌∙◌}
use Prim.Native.Nat.{◌+◌}
use lib.ListN.{set}
use Rattle.emitting.specs.model.Layout.{packed}
use Rattle.emitting.specs.model.Emission.{otherwise, noted, put, replaced, with_open, with_slot, ahead_at}
use Rattle.emitting.proofs.flow.otherwise.Goals as goal

pub returns : goal.returns
unfolding otherwise noted with_slot with_open replaced put ahead_at
returns c =
    let n = c.args.t.slots in
    let w = set c.args.next_ahead.now c.args.c.first (packed 0 0 (c.args.t.here.at + 1)) in
    λ vs ly es us en. rw (c.set_word.ensures, c.going_to.ensures.value)
    (rw (c.going_to-next.ensures.value, c.address_at.ensures) at (c.slot.ensures us _ _ w en ∙ ap with_slot (c.replace.ensures.en_after us _ w en ∙ ap (replaced n c.args.c.second 0 0) (c.put-r.ensures.en_after us c.args.things.now w en))))
