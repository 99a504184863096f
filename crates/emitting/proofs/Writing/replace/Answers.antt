-- `emitting::Writing::replace` meets its contract: the newest is closed, then another opens.
-- Assumes nothing.
use mathlib.Core.Path.{◌∙◌, ap}
use Rattle.emitting.specs.model.Emission.{pushed, popped, replaced, with_open}
use native.Mathlib.Omega.{arith}
use Rattle.emitting.proofs.Alikes.{alike_then}
use Rattle.emitting.proofs.Writing.replace.Goals as goal

pub returns : goal.returns
unfolding replaced pushed popped with_open
returns c =
    let a = c.args in
    let f = c.push.ensures.alike in
    let g = c.pop.ensures.alike in
    let i = g.4 c.requires in
    record { en_after = λ us co ah en. c.push.ensures.en_after us co ah en ∙ ap (pushed a.a a.b a.c a.d) (c.pop.ensures.en_value us a.things.now co ah en); alike = (alike_then g.0 f.0, f.1 ∙ g.1, omega (arith, f.2, i)) }
