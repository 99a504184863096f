-- `emitting::emission::plain_node` meets its contract: each kind puts the tests of `plain_node` right.
-- Assumes nothing.
use mathlib.Core.Path.{ap, ◌∙◌}
use borrow.Author.Tests.{ne_eqb}
use Rattle.emitting.specs.model.Emission.{plain_node, within, with_cell, nameless}
use Rattle.emitting.proofs.emission.plain_node.Goals as goal

pub returns-in-28 : goal.returns-in-28
unfolding plain_node
returns-in-28 c = λ ly ks es us ah en. simp c.in-28.is (rw c.value_of-v.ensures at (c.nameless.ensures us c.args.things.now _ ah en ∙ ap nameless (c.put-r.ensures.en_after us c.args.things.now ah en)))

pub returns-in-34 : goal.returns-in-34
unfolding plain_node
returns-in-34 c = λ ly ks es us ah en. simp c.in-34.is (rw c.value_of.ensures at (c.nameless-in-34.ensures us c.args.things.now _ ah en ∙ ap nameless (c.pointed-r.ensures us c.args.things.now ah en)))

pub returns-in-29 : goal.returns-in-29
unfolding plain_node
returns-in-29 c = λ ly ks es us ah en. simp c.in-29.is (c.nameless-in-29.ensures us c.args.things.now _ ah en ∙ ap nameless (c.put-r-in-29.ensures.en_after us c.args.things.now ah en))

pub returns-in-26 : goal.returns-in-26
unfolding plain_node
returns-in-26 c = λ ly ks es us ah en. simp c.in-26.is (c.nameless-in-26.ensures us c.args.things.now _ ah en ∙ ap nameless (c.signed-r.ensures us c.args.things.now ah en))

pub returns-in-27 : goal.returns-in-27
unfolding plain_node
returns-in-27 c = λ ly ks es us ah en. simp c.in-27.is (rw c.operation_of.ensures.value at (c.nameless-in-27.ensures us c.args.things.now _ ah en ∙ ap nameless (c.put-r-in-27.ensures.en_after us c.args.things.now ah en)))

pub returns-in-24 : goal.returns-in-24
unfolding plain_node
returns-in-24 c = λ ly ks es us ah en. simp c.in-24.is (c.assigned.ensures c.args.values.now ly ks es us ah en)

pub returns-in-5 : goal.returns-in-5
unfolding plain_node within with_cell
returns-in-5 c = λ ly ks es us ah en. simp c.in-5.is

pub returns-in-7 : goal.returns-in-7
unfolding plain_node with_cell
returns-in-7 c = λ ly ks es us ah en. simp c.in-7.is

pub returns-in_default : goal.returns-in_default
unfolding plain_node
returns-in_default c =
    let r = c.in_default.in_default-own.rest in
    λ ly ks es us ah en. simp (ne_eqb _ _ r.1, ne_eqb _ _ r.0.0.0.0.0.0.0.1, ne_eqb _ _ r.0.1, ne_eqb _ _ r.0.0.1, ne_eqb _ _ r.0.0.0.1, ne_eqb _ _ r.0.0.0.0.1, ne_eqb _ _ r.0.0.0.0.0.1, ne_eqb _ _ r.0.0.0.0.0.0.1)
