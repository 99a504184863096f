-- `emitting::loops::begun` meets its contract: the body's address is noted, and one for statement more is around.
-- Assumes nothing.
use mathlib.Core.Path.{ap}
use Prim.Native.Nat.{◌+◌}
use lib.ListN.{set}
use Rattle.emitting.specs.model.Layout.{packed}
use Rattle.emitting.specs.model.Emission.{State, within, noted, with_open, replaced}
use Rattle.emitting.proofs.loops.begun.Goals as goal

pub returns : goal.returns
unfolding within noted with_open replaced
returns c =
    let w = set c.args.next_ahead.now c.args.f.first (packed 0 0 c.args.t.here.at) in
    λ us co en. rw (c.set_word.ensures, c.going_to.ensures.value) (rw c.saturating_sub.ensures at (ap (λ (z : State). within z.level (z.loops + 1) z.cells z) (c.replace-r.ensures.en_after us co w en)))
