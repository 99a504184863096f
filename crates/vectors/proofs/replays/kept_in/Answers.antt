-- `vectors::replays::kept_in` meets its contract. A part is as long as it is said to be. Assumes nothing.
use mathlib.Core.Path.{sym}
use lib.Seq.{length-take-le}
use borrow.Author.Rules.{rules}
use Rattle.vectors.proofs.replays.kept_in.Goals as goal

pub slice_bounds-run_kept-end : goal.slice_bounds-run_kept-end
slice_bounds-run_kept-end c = sym (length-take-le _ _ (search rules))

pub slice_bounds-run_kept-end-2 : goal.slice_bounds-run_kept-end-2
slice_bounds-run_kept-end-2 c = sym (length-take-le _ _ (search rules))

pub slice_bounds-run_kept-end-3 : goal.slice_bounds-run_kept-end-3
slice_bounds-run_kept-end-3 c = sym (length-take-le _ _ (search rules))
