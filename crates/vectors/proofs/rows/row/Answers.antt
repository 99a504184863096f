-- `vectors::rows::row` meets its contract. What was loaded is no longer than the buffer, and is what the row is of.
-- Assumes nothing.
use native.Mathlib.Omega.{arith}
use lib.ListN.{length-take}
use Rattle.vectors.proofs.rows.row.Goals as goal

pub slice_bounds-compare-end-2 : goal.slice_bounds-compare-end-2
slice_bounds-compare-end-2 c =
    let l = c.load-n in
    omega (arith, length-take l.result l.new.buf, l.ensures)

pub slice_bounds-compare-end-3 : goal.slice_bounds-compare-end-3
slice_bounds-compare-end-3 c =
    let l = c.load-m in
    omega (arith, length-take l.result l.new.buf, l.ensures)

pub slice_bounds-compare-end-5 : goal.slice_bounds-compare-end-5
slice_bounds-compare-end-5 c =
    let l = c.load-n in
    omega (arith, length-take l.result l.new.buf, l.ensures)

pub slice_bounds-compare-end-6 : goal.slice_bounds-compare-end-6
slice_bounds-compare-end-6 c =
    let l = c.load-m in
    omega (arith, length-take l.result l.new.buf, l.ensures)

pub returns : goal.returns
returns c = (_, _, c.compare-plain.ensures, c.compare-capitals.ensures)
