-- `reading::moving::beyond` meets its contract. The invariant: the first i were raised; the others stand as they stood, and are small. Assumes nothing.
use Prim.Native.Nat.{◌<◌}
use native.Mathlib.Omega.{arith}
use lib.ListN.{take}
use lib.Seq.{length-take-le}
use Rattle.std.proofs.lemmas.List.{get_or-take}
use Rattle.reading.proofs.Moves.{raising, still, raising_on, all_front}
use Rattle.reading.proofs.moving.beyond.Goals as goal

pub loop-place-init : goal.loop-place-init
loop-place-init c = raising (take c.args.count c.args.places.now) 32768 c.args.count

pub overflow_add-place : goal.overflow_add-place
overflow_add-place c =
    let i = c.loop-place.place-index in
    let l = length-take-le c.args.count c.args.places.now c.requires.0 in
    let h : i < c.args.count = omega arith in
    let s = still 0 c.loop-place.invariant (omega arith) in
    omega (arith, s, get_or-take c.args.count c.args.places.now i 0 h, c.requires.1 i h)

pub loop-place-preserved : goal.loop-place-preserved
loop-place-preserved c =
    let l = length-take-le c.args.count c.args.places.now c.requires.0 in
    raising_on _ c.loop-place.invariant (omega arith) (omega arith)

pub returns : goal.returns
returns c =
    let l = length-take-le c.args.count c.args.places.now c.requires.0 in
    all_front c.args.places.now c.requires.0 c.loop-place.invariant (omega arith)
