-- An answer at a time.
use native.Mathlib.Numerals.{add-one}
use borrow.Author.Tests.{ne_eqb}
use Rattle.reporting.specs.model.Tallying.{one_more}
use Rattle.reporting.proofs.tallies.one_more.Goals as goal

pub returns-in-0 : goal.returns-in-0
unfolding one_more
returns-in-0 c = simp (c.in-0.is, add-one)

pub returns-in-20 : goal.returns-in-20
unfolding one_more
returns-in-20 c = simp (c.in-20.is, add-one)

pub returns-in-21 : goal.returns-in-21
unfolding one_more
returns-in-21 c = simp (c.in-21.is, add-one)

pub returns-in-22 : goal.returns-in-22
unfolding one_more
returns-in-22 c = simp (c.in-22.is, add-one)

pub returns-in-23 : goal.returns-in-23
unfolding one_more
returns-in-23 c = simp (c.in-23.is, add-one)

pub returns-in-24 : goal.returns-in-24
unfolding one_more
returns-in-24 c = simp (c.in-24.is, add-one)

pub returns-in-25 : goal.returns-in-25
unfolding one_more
returns-in-25 c = simp (c.in-25.is, add-one)

pub returns-in-26 : goal.returns-in-26
unfolding one_more
returns-in-26 c = simp (c.in-26.is, add-one)

pub returns-in-27 : goal.returns-in-27
unfolding one_more
returns-in-27 c = simp (c.in-27.is, add-one)

pub returns-in-28 : goal.returns-in-28
unfolding one_more
returns-in-28 c = simp (c.in-28.is, add-one)

pub returns-in-29 : goal.returns-in-29
unfolding one_more
returns-in-29 c = simp (c.in-29.is, add-one)

pub returns-in-30 : goal.returns-in-30
unfolding one_more
returns-in-30 c = simp (c.in-30.is, add-one)

pub returns-in_default : goal.returns-in_default
unfolding one_more
returns-in_default c = simp (ne_eqb _ _ c.in_default.in_default-own.rest.1, ne_eqb _ _ c.in_default.in_default-own.rest.0.1, ne_eqb _ _ c.in_default.in_default-own.rest.0.0.1, ne_eqb _ _ c.in_default.in_default-own.rest.0.0.0.1, ne_eqb _ _ c.in_default.in_default-own.rest.0.0.0.0.1, ne_eqb _ _ c.in_default.in_default-own.rest.0.0.0.0.0.1, ne_eqb _ _ c.in_default.in_default-own.rest.0.0.0.0.0.0.1, ne_eqb _ _ c.in_default.in_default-own.rest.0.0.0.0.0.0.0.1, ne_eqb _ _ c.in_default.in_default-own.rest.0.0.0.0.0.0.0.0.1, ne_eqb _ _ c.in_default.in_default-own.rest.0.0.0.0.0.0.0.0.0.1, ne_eqb _ _ c.in_default.in_default-own.rest.0.0.0.0.0.0.0.0.0.0.1, ne_eqb _ _ c.in_default.in_default-own.rest.0.0.0.0.0.0.0.0.0.0.0.1)
