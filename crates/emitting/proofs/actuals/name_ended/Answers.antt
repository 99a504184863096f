-- `emitting::actuals::name_ended` meets its contract: the three slots are noted, and an activation fewer is around.
-- Assumes nothing.
use mathlib.Core.Path.{ap, ◌∙◌}
use Prim.Native.Nat.{◌+◌, ◌-◌}
use native.Mathlib.Omega.{arith}
use lib.ListN.{set}
use Rattle.emitting.specs.model.Layout.{packed}
use Rattle.emitting.specs.model.Emission.{State, put, noted, within, name_ended}
use Rattle.emitting.proofs.actuals.name_ended.Goals as goal

pub returns : goal.returns
unfolding name_ended noted within put
returns c =
    let a = c.args in
    let i = a.c.first - 4 in
    let w = set (set (set a.next_ahead.now (i + 2) a.t.variable) (i + 1) a.place.at) i (packed 0 0 (a.t.here.at + 1 + 1)) in
    let p = c.put-turned.ensures.alike in
    let q = c.put-r.ensures.alike in record {
      en_after = λ vs ly ks es us op en. rw (c.set_word-3.ensures, c.set_word-2.ensures, c.set_word.ensures, c.going_to.ensures.value, c.saturating_sub.ensures, c.saturating_sub-slot.ensures)
          (ap (λ (z : State). within (a.t.level - 1) z.loops z.cells z) (c.put-r.ensures.en_after us op w en ∙ ap (put 7 0 0) (c.put-turned.ensures.en_after us op w en)));
      at_value = (omega (arith, p.1, q.1), q.0.slots ∙ p.0.slots, omega (arith, c.saturating_sub.ensures), q.2 ∙ p.2);
    }
