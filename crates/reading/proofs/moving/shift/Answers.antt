-- `reading::moving::shift` meets its contract. The invariant: the first i nodes were shifted. Assumes nothing.
use Prim.Native.Nat.{◌+◌, ◌*◌}
use native.Mathlib.Omega.{arith}
use Rattle.reading.proofs.Moves.{shifting, not_shifted, shifting_on, all_shifted}
use Rattle.reading.proofs.moving.shift.Goals as goal

pub loop-i-init : goal.loop-i-init
loop-i-init c = shifting c.args.nodes.now c.args.m c.args.count

pub moved-requires : goal.moved-requires
moved-requires c =
    let p = c.requires.0 in
    let m = c.requires.1 in
    let b = c.requires.2 c.loop-i.i (omega arith) in
    let s = not_shifted {j = 4 * c.loop-i.i + 1} 0 c.loop-i.invariant p (omega arith) in
    omega (arith, s, b)

pub loop-i-preserved : goal.loop-i-preserved
loop-i-preserved c = shifting_on 0 c.loop-i.invariant (omega arith) c.requires.0 c.moved.ensures

pub returns : goal.returns
returns c = all_shifted c.loop-i.invariant (omega arith)
