-- `emitting::actuals::given_in` meets its contract: the call has one actual more, and what it awaits next is known.
-- Assumes nothing.
use mathlib.Core.Path.{ap, ◌∙◌}
use mathlib.Core.Bool.{cond, ◌&&◌}
use Prim.Native.Nat.{◌+◌}
use lib.Dec.{eqb}
use Rattle.emitting.specs.model.Emission.{State, with_variable, with_open, replaced}
use Rattle.emitting.proofs.actuals.given_in.Goals as goal

pub returns : goal.returns
unfolding with_variable with_open replaced
returns c =
    let a = c.args in
    let f = a.c in
    λ vs ly ks es us ah en. rw c.awaited.ensures
    (ap (λ (z : State). with_variable (cond (eqb f.second 2 && eqb f.third 0) 1 0) a.t.variable z) (c.replace-r.ensures.en_after us _ ah en ∙ ap (replaced 0 f.second (f.third + 1) a.place.at) (c.given_turned-turned.ensures.en_after vs ly ks es us a.things.now ah en)))
