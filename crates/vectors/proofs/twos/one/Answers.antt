-- `vectors::twos::one` meets its contract. What was loaded is no longer than the buffer, and is what the row is of.
-- Assumes nothing.
use mathlib.Core.Path.{sym}
use lib.Seq.{length-take-le}
use borrow.Author.Rules.{rules}
use Rattle.vectors.proofs.twos.one.Goals as goal

pub slice_bounds-compare-end-2 : goal.slice_bounds-compare-end-2
slice_bounds-compare-end-2 c = sym (length-take-le _ _ (search rules))

pub returns : goal.returns
returns c = (_, c.compare.ensures)
