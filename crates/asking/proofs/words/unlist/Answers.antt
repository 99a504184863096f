-- `asking::words::unlist` meets its contract. By what `is_between` tells, and whether the byte is a zero.
-- Assumes nothing.
use mathlib.Core.Path.{sym, ◌∙◌}
use borrow.Author.Tests.{eq-eqb, ne_eqb}
use Rattle.asking.specs.Words.{unlisted}
use Rattle.asking.proofs.words.unlist.Goals as goal

pub returns-then-is_between : goal.returns-then-is_between
unfolding unlisted
returns-then-is_between c = rw (sym c.is_between.ensures ∙ c.if-is_between.true)

pub returns-then-b-eq0 : goal.returns-then-b-eq0
unfolding unlisted
returns-then-b-eq0 c = rw (sym c.is_between.ensures ∙ c.if-is_between.false, eq-eqb _ 0 c.if-b-eq0.true)

pub returns-else-b-eq0 : goal.returns-else-b-eq0
unfolding unlisted
returns-else-b-eq0 c = rw (sym c.is_between.ensures ∙ c.if-is_between.false, ne_eqb _ 0 c.if-b-eq0.false)
