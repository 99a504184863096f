-- `deed::check::show_typed` meets its contract. What is shown is within the word.
-- Assumes nothing.
use mathlib.Core.Path.{sym}
use native.Mathlib.Omega.{arith}
use lib.Seq.{length-take-le}
use Rattle.deed.proofs.check.show_typed.Goals as goal

pub slice_bounds-tell_typed-end : goal.slice_bounds-tell_typed-end
slice_bounds-tell_typed-end c = sym (length-take-le _ _ (omega (arith, c.min-n.ensures)))
