-- A part of the numbers is as long as it is said to be.
use mathlib.Core.Path.{sym}
use lib.Seq.{length-take-le}
use Rattle.machine_runs.proofs.tried.Goals as goal

pub slice_bounds-ran-end : goal.slice_bounds-ran-end
slice_bounds-ran-end c = sym (length-take-le c.args.numbers _ c.requires.0)

pub slice_bounds-ran-end-2 : goal.slice_bounds-ran-end-2
slice_bounds-ran-end-2 c = sym (length-take-le c.args.room _ c.requires.1)
