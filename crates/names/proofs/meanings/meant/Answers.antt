-- `names::meanings::meant` is the meaning that a word keeps.
-- The two tests of the code are those of the definition, in the same order.
use borrow.Author.Tests.{lt-ltb, le-ltb}
use Rattle.names.specs.model.Rows.{meant_of}
use Rattle.names.proofs.meanings.meant.Goals as goal

pub returns-then-word-lt-GIVEN : goal.returns-then-word-lt-GIVEN
unfolding meant_of
returns-then-word-lt-GIVEN c = simp (lt-ltb _ _ c.if-word-lt-GIVEN.true)

pub returns-then-word-lt-NOTHING : goal.returns-then-word-lt-NOTHING
unfolding meant_of
returns-then-word-lt-NOTHING c = simp (le-ltb _ _ c.if-word-lt-GIVEN.false, lt-ltb _ _ c.if-word-lt-NOTHING.true)

pub returns : goal.returns
unfolding meant_of
returns c = simp (le-ltb _ _ c.if-word-lt-GIVEN.false, le-ltb _ _ c.if-word-lt-NOTHING.false)
