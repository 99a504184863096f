-- `vectors::replays::all` meets its contract. What was loaded is no longer than the buffer.
-- Assumes nothing.
use native.Mathlib.Omega.{arith}
use lib.ListN.{length-take}
use Rattle.vectors.proofs.replays.all.Goals as goal

pub slice_bounds-rows-end : goal.slice_bounds-rows-end
slice_bounds-rows-end c =
    let l = c.load-n in
    omega (arith, length-take l.result l.new.buf, l.ensures)

pub slice_bounds-rows-end-2 : goal.slice_bounds-rows-end-2
slice_bounds-rows-end-2 c =
    let l = c.load-m in
    omega (arith, length-take l.result l.new.buf, l.ensures)
