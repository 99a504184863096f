-- The invariant: so many numbers agree, and those that agree behind them count too.
use mathlib.Core.Path.{ap}
use native.Mathlib.Omega.{arith}
use native.Mathlib.Numerals.{add-one}
use lib.IntN.{ℤ, pos}
use lib.ListN.{get_or}
use mir.Val.{of_z}
use Rattle.std.proofs.Common.{rules, FitsSigned, w32}
use Rattle.reals.proofs.Signed.{same_number, same_yes, same_no}
use Rattle.records.proofs.Replays.{agreed_ends, agreed_stop, agreed_on}
use Rattle.records.proofs.replaying.agreeing.Goals as goal

pub returns-then-a-i : goal.returns-then-a-i
returns-then-a-i c =
    let xs = c.args.a.now in
    let ys = c.args.b.now in
    let f = same_no (get_or xs c.loop-i.i (pos 0)) (get_or ys c.loop-i.i (pos 0)) (λ e. c.if-a-i.true (ap (λ (z : ℤ). of_z w32 z) e)) in
    omega (arith, c.loop-i.invariant, agreed_stop xs ys c.loop-i.i (omega arith) (omega arith) f)

pub loop-i-preserved : goal.loop-i-preserved
loop-i-preserved c =
    let xs = c.args.a.now in
    let ys = c.args.b.now in
    let p : FitsSigned w32 (get_or xs c.loop-i.i (pos 0)) = search rules in
    let q : FitsSigned w32 (get_or ys c.loop-i.i (pos 0)) = search rules in
    let f = same_yes (same_number {w = w32} {x = get_or xs c.loop-i.i (pos 0)} {y = get_or ys c.loop-i.i (pos 0)} p q c.if-a-i.false) in
    let g = agreed_on xs ys c.loop-i.i (omega arith) (omega arith) f in
    rw add-one (omega (arith, c.loop-i.invariant, g))

pub returns : goal.returns
returns c =
    let xs = c.args.a.now in
    let ys = c.args.b.now in
    omega (arith, c.loop-i.invariant, c.loop-i-test.false, c.loop-i.auto.i-end, agreed_ends xs ys c.loop-i.i (omega arith))
