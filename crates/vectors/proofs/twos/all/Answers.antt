-- `vectors::twos::all` meets its contract. What was loaded is no longer than the buffer.
-- Assumes nothing.
use mathlib.Core.Path.{sym}
use lib.Seq.{length-take-le}
use borrow.Author.Rules.{rules}
use Rattle.vectors.proofs.twos.all.Goals as goal

pub slice_bounds-pairs-end : goal.slice_bounds-pairs-end
slice_bounds-pairs-end c = sym (length-take-le _ _ (search rules))

pub slice_bounds-sources-end : goal.slice_bounds-sources-end
slice_bounds-sources-end c = sym (length-take-le _ _ (search rules))

pub slice_bounds-sources-end-2 : goal.slice_bounds-sources-end-2
slice_bounds-sources-end-2 c = sym (length-take-le _ _ (search rules))
