-- `types::walking::plain` meets its contract: each arm's number puts the tests of `plain_typed` right.
use mathlib.Core.Path.{◌∙◌}
use mathlib.Core.Logic.{inl, inr}
use borrow.Author.Tests.{ne_eqb}
use Rattle.types.specs.model.Passes.{plain_typed}
use Rattle.types.proofs.Stacks.{plain_integer}
use borrow.Author.Rules.{rules}
use Rattle.types.proofs.walking.plain.Goals as goal

pub push-requires : goal.push-requires
unfolding plain_typed
push-requires c = search rules

pub push-requires-in-34 : goal.push-requires-in-34
unfolding plain_typed
push-requires-in-34 c = search rules

pub push-requires-in-29 : goal.push-requires-in-29
unfolding plain_typed
push-requires-in-29 c = search rules

pub unary-requires : goal.unary-requires
unfolding plain_typed
unary-requires c = search rules

pub binary-requires : goal.binary-requires
unfolding plain_typed
binary-requires c = search rules

pub condition-requires : goal.condition-requires
unfolding plain_typed
condition-requires c = search rules

pub take-requires : goal.take-requires
unfolding plain_typed
take-requires c = search rules

pub take-requires-in-16 : goal.take-requires-in-16
unfolding plain_typed
take-requires-in-16 c = search rules

pub pop-requires : goal.pop-requires
unfolding plain_typed
pop-requires c = search rules

pub conditional-requires : goal.conditional-requires
unfolding plain_typed
conditional-requires c = search rules

pub assign-requires : goal.assign-requires
unfolding plain_typed
assign-requires c = search rules

pub returns-in-28 : goal.returns-in-28
unfolding plain_typed
returns-in-28 c = λ u d b. simp c.in-28.is (c.push.ensures u d b)

pub returns-in-34 : goal.returns-in-34
unfolding plain_typed
returns-in-34 c = λ u d b. simp c.in-34.is (c.push-in-34.ensures u d b)

pub returns-in-29 : goal.returns-in-29
unfolding plain_typed
returns-in-29 c = λ u d b. simp c.in-29.is (c.push-in-29.ensures u d b)

pub returns-in-26 : goal.returns-in-26
unfolding plain_typed
returns-in-26 c = λ u d b. simp c.in-26.is (c.unary.ensures u d b)

pub returns-in-27 : goal.returns-in-27
unfolding plain_typed
returns-in-27 c = λ u d b. simp c.in-27.is (c.binary.ensures u d b)

pub returns-in-12 : goal.returns-in-12
unfolding plain_typed
returns-in-12 c = λ u d b. simp c.in-12.is (c.condition.ensures u d b)

pub returns-in-18 : goal.returns-in-18
unfolding plain_typed
returns-in-18 c = λ u d b. simp c.in-18.is (c.take.ensures.by_index u d b)

pub returns-in-16 : goal.returns-in-16
unfolding plain_typed
returns-in-16 c = λ u d b. c.take-in-16.ensures.by_index u d b ∙ plain_integer _ _ _ _ c.in-16.is

pub returns-in-14 : goal.returns-in-14
unfolding plain_typed
returns-in-14 c = λ u d b. simp c.in-14.is (c.pop.ensures.b_value u _ d b)

pub returns-in-25 : goal.returns-in-25
unfolding plain_typed
returns-in-25 c = λ u d b. simp c.in-25.is (c.conditional.ensures u d b)

pub returns-in-24 : goal.returns-in-24
unfolding plain_typed
returns-in-24 c = λ u d b. simp c.in-24.is (c.assign.ensures u d b)

pub returns-in_default : goal.returns-in_default
unfolding plain_typed
returns-in_default c =
    let r = c.in_default.in_default-own.rest in
    λ u d b. simp (ne_eqb _ _ r.1, ne_eqb _ _ r.0.1, ne_eqb _ _ r.0.0.1, ne_eqb _ _ (λ e. r.0.0.0.1 (inl e)), ne_eqb _ _ (λ e. r.0.0.0.1 (inr e)), ne_eqb _ _ r.0.0.0.0.1, ne_eqb _ _ r.0.0.0.0.0.1, ne_eqb _ _ r.0.0.0.0.0.0.1, ne_eqb _ _ r.0.0.0.0.0.0.0.1, ne_eqb _ _ r.0.0.0.0.0.0.0.0.1, ne_eqb _ _ r.0.0.0.0.0.0.0.0.0.1, ne_eqb _ _ r.0.0.0.0.0.0.0.0.0.0.1)
