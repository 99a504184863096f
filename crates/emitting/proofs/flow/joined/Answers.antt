-- `emitting::flow::joined` meets its contract: the address is noted, and the condition is closed.
-- Assumes nothing.
use mathlib.Core.Path.{ap, ◌∙◌}
use lib.ListN.{set}
use Rattle.emitting.specs.model.Layout.{packed}
use Rattle.emitting.specs.model.Emission.{joined, noted, popped, with_open, nameless}
use Rattle.emitting.proofs.flow.joined.Goals as goal

pub returns : goal.returns
unfolding joined noted popped with_open
returns c =
    let w = set c.args.next_ahead.now c.args.c.first (packed 0 0 c.args.t.here.at) in
    λ vs ly ks es us op co en. rw (c.set_word.ensures, c.going_to.ensures.value) (c.nameless.ensures us op co w en ∙ ap nameless (c.pop.ensures.en_value us op co w en))
