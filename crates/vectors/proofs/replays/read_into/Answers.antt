-- `vectors::replays::read_into` meets its contract. A part is as long as it is said to be. Assumes nothing.
use mathlib.Core.Path.{sym}
use lib.Seq.{length-take-le}
use borrow.Author.Rules.{rules}
use Rattle.vectors.proofs.replays.read_into.Goals as goal

pub slice_bounds-inputs_at-end-2 : goal.slice_bounds-inputs_at-end-2
slice_bounds-inputs_at-end-2 c = sym (length-take-le _ _ (search rules))
