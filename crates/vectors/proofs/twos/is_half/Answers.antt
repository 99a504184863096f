-- `vectors::twos::is_half` meets its contract.
-- Assumes nothing.
use mathlib.Core.Path.{sym, ◌∙◌}
use Rattle.vectors.specs.Twos.{half_by}
use Rattle.vectors.proofs.twos.is_half.Goals as goal

pub returns-then-accepted : goal.returns-then-accepted
unfolding half_by
returns-then-accepted c = rw (sym c.accepted.ensures ∙ c.if-accepted.true) c.same_uses.ensures

pub returns : goal.returns
unfolding half_by
returns c = rw (sym c.accepted.ensures ∙ c.if-accepted.false) c.all_words.ensures
