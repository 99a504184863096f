-- `emitting::flow::begun` meets its contract: the block's cells and its first statement are noted, and its variables are kept.
-- Assumes nothing.
use mathlib.Core.Path.{ap, ◌∙◌}
use lib.ListN.{set}
use Rattle.emitting.specs.model.Layout.{packed}
use Rattle.emitting.specs.model.Emission.{opening, noted, put, replaced, with_open}
use Rattle.emitting.proofs.flow.begun.Goals as goal

pub returns : goal.returns
unfolding opening noted replaced with_open put
returns c =
    let a = c.args in
    let w = set a.next_ahead.now a.c.first (packed 0 0 a.t.here.at) in
    λ vs ly ks es us en. rw (c.set_word.ensures, c.going_to.ensures.value)
    (rw c.counts_for-counts.ensures.value at (c.replace.ensures.en_after us _ w en ∙ ap (replaced a.c.first 0 a.t.cells a.c.fourth) (c.put-r.ensures.en_after us a.things.now w en)))
