-- One line a type.
use Rattle.reals.specs.model.Stored.{kind_of}
use Rattle.reals.proofs.stored.unset.Goals as goal

pub returns-in-Wholes : goal.returns-in-Wholes
unfolding kind_of
returns-in-Wholes c = simp c.in-Wholes.is

pub returns-in-Truths : goal.returns-in-Truths
unfolding kind_of
returns-in-Truths c = simp c.in-Truths.is

pub returns-in-Reals : goal.returns-in-Reals
unfolding kind_of
returns-in-Reals c = simp c.in-Reals.is
