-- `emitting::calls::use_node` meets its contract: what the next use means, then the arm of the node's kind.
-- Assumes nothing.
use mathlib.Core.Path.{ap, ◌∙◌}
use borrow.Author.Tests.{ne_eqb}
use Prim.Native.Nat.{◌+◌}
use Rattle.emitting.specs.model.Emission.{State, uses_in, use_node, named_or, calling, cell_of, pushed, with_lefts, repeated}
use Rattle.emitting.proofs.calls.use_node.Goals as goal

pub returns-in-30 : goal.returns-in-30
unfolding use_node
returns-in-30 c =
    let a = c.args in
    let n = c.next-name.ensures.kind_value in
    let us = uses_in a.known.now.rows.now a.uses.now in
    λ vs ah en. simp c.in-30.is (rw (c.form_at-form.ensures.value, n.0, n.1) at (c.named_or.ensures vs a.known.now.ahead.now us ah en ∙ ap (named_or vs a.known.now.layout.now a.known.now.ahead.now a.known.now.entries.now c.next-name.result.kind c.next-name.result.means a.u a.place.at a.one c.form_at-form.result) (c.passed-r.ensures.en_value a.known.now.rows.now a.things.now a.code.now ah en)))

pub returns-in-31 : goal.returns-in-31
unfolding use_node
returns-in-31 c =
    let a = c.args in
    let n = c.next-name.ensures.kind_value in
    let us = uses_in a.known.now.rows.now a.uses.now in
    λ vs ah en. simp c.in-31.is (rw (n.0, n.1) at (c.calling.ensures vs a.known.now.entries.now us ah en ∙ ap (calling vs a.known.now.layout.now a.known.now.ahead.now a.known.now.entries.now a.known.now.rows.now c.next-name.result.kind c.next-name.result.means a.place.at a.one) (c.passed-r.ensures.en_value a.known.now.rows.now a.things.now a.code.now ah en)))

pub returns-in-23 : goal.returns-in-23
unfolding use_node
returns-in-23 c =
    let a = c.args in
    let n = c.next-name.ensures.kind_value in
    let us = uses_in a.known.now.rows.now a.uses.now in
    λ vs ah en. simp c.in-23.is (rw (n.0, n.1) at (c.left_part.ensures vs a.known.now.ahead.now a.known.now.entries.now us a.code.now ah en ∙ ap (λ (z : State). with_lefts (z.lefts + 1) (pushed 0 (cell_of vs a.known.now.layout.now a.known.now.ahead.now a.known.now.entries.now z.level c.next-name.result.kind c.next-name.result.means) a.place.at 0 z)) (c.passed-r.ensures.en_value a.known.now.rows.now a.things.now a.code.now ah en)))

pub returns-in_default : goal.returns-in_default
unfolding use_node
returns-in_default c =
    let a = c.args in
    let n = c.next-name.ensures.kind_value in
    let r = c.in_default.in_default-own.rest in
    let us = uses_in a.known.now.rows.now a.uses.now in
    λ vs ah en. simp (ne_eqb _ _ r.1, ne_eqb _ _ r.0.1, ne_eqb _ _ r.0.0.1) (rw (n.0, n.1) at (c.repeated.ensures vs a.known.now.ahead.now a.known.now.entries.now us a.code.now ah en ∙ ap (repeated vs a.known.now.layout.now a.known.now.ahead.now a.known.now.entries.now c.next-name.result.kind c.next-name.result.means a.place.at) (c.passed-r.ensures.en_value a.known.now.rows.now a.things.now a.code.now ah en)))
