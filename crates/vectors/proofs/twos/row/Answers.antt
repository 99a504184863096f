-- `vectors::twos::row` meets its contract. What was loaded is no longer than the buffer, and is what the row is of.
-- Assumes nothing.
use mathlib.Core.Path.{sym}
use lib.Seq.{length-take-le}
use borrow.Author.Rules.{rules}
use Rattle.vectors.proofs.twos.row.Goals as goal

pub slice_bounds-pair-end-2 : goal.slice_bounds-pair-end-2
slice_bounds-pair-end-2 c = sym (length-take-le _ _ (search rules))

pub slice_bounds-pair-end-3 : goal.slice_bounds-pair-end-3
slice_bounds-pair-end-3 c = sym (length-take-le _ _ (search rules))

pub slice_bounds-pair-end-4 : goal.slice_bounds-pair-end-4
slice_bounds-pair-end-4 c = sym (length-take-le _ _ (search rules))

pub slice_bounds-pair-end-5 : goal.slice_bounds-pair-end-5
slice_bounds-pair-end-5 c = sym (length-take-le _ _ (search rules))

pub slice_bounds-pair-end-6 : goal.slice_bounds-pair-end-6
slice_bounds-pair-end-6 c = sym (length-take-le _ _ (search rules))
