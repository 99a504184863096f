-- `emitting::loops::step_held` meets its contract: the two instructions, and where the second stands is noted.
-- Assumes nothing.
use mathlib.Core.Path.{ap, ◌∙◌}
use Prim.Native.Nat.{◌+◌}
use lib.ListN.{set}
use Rattle.emitting.specs.model.Layout.{packed}
use Rattle.emitting.specs.model.Emission.{State, put, noted, replaced, with_open, step_held}
use Rattle.emitting.proofs.loops.step_held.Goals as goal

pub returns : goal.returns
unfolding step_held noted replaced with_open put
returns c =
    let t = c.args.t in
    let k = c.args.c in
    let w = set c.args.next_ahead.now k.first (packed 0 0 (t.here.at + 1)) in
    λ vs ly ks es us en. rw (c.set_word.ensures, c.going_to.ensures.value, c.put-gone.ensures.alike.1)
    (rw c.packed-back.ensures.value at
    (c.replace.ensures.en_after us _ w en
    ∙ ap (λ (z : State). replaced z.at 1 k.third k.fourth z) (c.put-held.ensures.en_after us c.args.things.now w en ∙ ap (put 20 0 0) (c.put-gone.ensures.en_after us c.args.things.now w en))))
