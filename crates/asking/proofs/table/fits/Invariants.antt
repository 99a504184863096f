-- `asking::table::fits` meets its contract. A word for each name that is passed, so what is left of both decides.
-- Assumes nothing.
use mathlib.Core.Path.{◌≡◌}
use mathlib.Core.List.{[]}
use Prim.Native.Nat.{◌-◌}
use lib.ListN.{length, drop}
use Rattle.asking.specs.Words.{words_of}
use Rattle.asking.specs.Sorts.{those}
use Rattle.asking.specs.Options.{operands_from}
use Rattle.asking.specs.Table.{names, more, matched}
use Rattle.asking.specs.declared.sorts.Sort.TheVariants.{Capital}
use Rattle.asking.proofs.table.fits.Given as goal

abbrev pub invariant-loop-name : goal.invariant-loop-name
invariant-loop-name l = matched (names (words_of l.row)) (more (words_of l.row)) (operands_from l.line l.at) ≡ matched (those Capital [] (words_of (drop l.i l.row))) (more (words_of l.row)) (operands_from l.line l.p)

abbrev pub decreases-loop-name : goal.decreases-loop-name
decreases-loop-name l = length l.row - l.i
