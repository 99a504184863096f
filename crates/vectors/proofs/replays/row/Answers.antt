-- `vectors::replays::row` meets its contract. What was loaded is no longer than the buffer.
-- Assumes nothing.
use native.Mathlib.Omega.{arith}
use lib.ListN.{length-take}
use Rattle.vectors.proofs.replays.row.Goals as goal

pub slice_bounds-one-end-2 : goal.slice_bounds-one-end-2
slice_bounds-one-end-2 c =
    let l = c.load-n in
    omega (arith, length-take l.result l.new.buf, l.ensures)

pub slice_bounds-one-end-3 : goal.slice_bounds-one-end-3
slice_bounds-one-end-3 c =
    let l = c.load-m in
    omega (arith, length-take l.result l.new.buf, l.ensures)
