-- `emitting::loops::element` meets its contract: the address is noted, and the next slot is the one that lies ahead.
-- Assumes nothing.
use mathlib.Core.Path.{ap, ◌∙◌}
use lib.ListN.{set}
use Rattle.emitting.specs.model.Layout.{packed}
use Rattle.emitting.specs.model.Emission.{element, noted, with_slot, with_open, replaced}
use Rattle.emitting.proofs.loops.element.Goals as goal

pub returns : goal.returns
unfolding element noted with_slot with_open replaced
returns c =
    let w = set c.args.next_ahead.now c.args.t.slots (packed 0 0 c.args.t.here.at) in
    λ vs ly ks es us co en. rw (c.set_word.ensures, c.going_to.ensures.value) (c.slot.ensures us _ co w en ∙ ap with_slot (c.replace.ensures.en_after us co w en))
