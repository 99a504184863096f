-- `reading::schemes::read_two` meets its contract: too short a table is 1, twice; of any other the two halves are filled one after the other. Assumes nothing.
use mathlib.Core.Path.{sym}
use native.Mathlib.Omega.{arith}
use lib.Seq.{length-take-le}
use Rattle.reading.proofs.Independent.{same_length as two-length}
use Rattle.reading.proofs.HalfWords.{as_two}
use Rattle.reading.proofs.SchemeStands.{as_two_short}
use Rattle.reading.proofs.schemes.read_two.Goals as goal

pub returns-then-table-lt32768 : goal.returns-then-table-lt32768
returns-then-table-lt32768 c = as_two_short c.if-table-lt32768.true c.new.ensures c.new.ensures

pub slice_bounds-half-end-2 : goal.slice_bounds-half-end-2
slice_bounds-half-end-2 c = sym (length-take-le 16384 c.args.table.now (omega (arith, c.if-table-lt32768.false)))

pub half-a-requires : goal.half-a-requires
half-a-requires c = length-take-le 16384 c.args.table.now (omega (arith, c.if-table-lt32768.false))

pub shape_of-table : goal.shape_of-table
shape_of-table c = two-length (as_two _ _ c.args.table.now c.if-table-lt32768.false c.half-a.ensures c.half-b.ensures)

pub returns : goal.returns
returns c = as_two _ _ c.args.table.now c.if-table-lt32768.false c.half-a.ensures c.half-b.ensures
