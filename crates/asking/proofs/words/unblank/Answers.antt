-- `asking::words::unblank` meets its contract. By what `is_blank` tells.
-- Assumes nothing.
use mathlib.Core.Path.{sym, ◌∙◌}
use Rattle.asking.specs.Words.{unblanked}
use Rattle.asking.proofs.words.unblank.Goals as goal

pub returns-then-is_blank : goal.returns-then-is_blank
unfolding unblanked
returns-then-is_blank c = rw (sym c.is_blank.ensures ∙ c.if-is_blank.true)

pub returns-else-is_blank : goal.returns-else-is_blank
unfolding unblanked
returns-else-is_blank c = rw (sym c.is_blank.ensures ∙ c.if-is_blank.false)
