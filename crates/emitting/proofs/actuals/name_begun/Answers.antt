-- `emitting::actuals::name_begun` meets its contract: its code begins, the call holds the first of three slots, and an activation more is around.
-- Assumes nothing.
use mathlib.Core.Path.{◌≡◌, ap, ◌∙◌}
use native.Mathlib.Omega.{arith}
use Prim.Native.Nat.{◌+◌}
use Rattle.emitting.specs.model.Emission.{State, replaced, with_open, with_slot, within, name_begun}
use Rattle.emitting.proofs.Alikes.{alike_then}
use Rattle.emitting.proofs.actuals.name_begun.Goals as goal

pub returns : goal.returns
unfolding name_begun within with_slot replaced with_open
returns c =
    let a = c.args in
    let q = alike_then c.opening.ensures.alike.0 c.replace-r.ensures.alike.0 in
    let n = c.replace-r.result.slots in
    let w : n + 3 ≡ n + 1 + 1 + 1 = omega arith in
    λ vs ly es us ah en. rw (w, q.level, q.loops, q.cells) (ap (λ (z : State). within (a.t.level + 1) a.t.loops a.t.cells (with_slot (with_slot (with_slot z)))) (c.replace-r.ensures.en_after us _ ah en ∙ ap (replaced (4 + a.t.slots) a.m a.j a.d) (c.opening.ensures.by_index vs ly es us a.things.now ah en)))
