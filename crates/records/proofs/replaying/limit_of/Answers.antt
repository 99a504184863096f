-- Two halves of 32 bits.
use mathlib.Core.Path.{◌≡◌}
use native.Mathlib.Omega.{arith}
use mir.Facts.{to_z-of_z}
use Rattle.records.specs.Record.{half}
use Rattle.records.proofs.RecordLaws.{half_below}
use Rattle.records.proofs.replaying.limit_of.Goals as goal

pub overflow_mul-result : goal.overflow_mul-result
overflow_mul-result c =
    let h : c.half.result ≡ half c.args.high = simp (to_z-of_z c.ranges.high) at c.half.ensures in
    omega (arith, h, half_below c.args.high c.ranges.high.sfits)

pub overflow_add-result : goal.overflow_add-result
overflow_add-result c =
    let h : c.half.result ≡ half c.args.high = simp (to_z-of_z c.ranges.high) at c.half.ensures in
    let l : c.half-2.result ≡ half c.args.low = simp (to_z-of_z c.ranges.low) at c.half-2.ensures in
    omega (arith, h, l, half_below c.args.high c.ranges.high.sfits, half_below c.args.low c.ranges.low.sfits)

pub returns : goal.returns
returns c =
    let h : c.half.result ≡ half c.args.high = simp (to_z-of_z c.ranges.high) at c.half.ensures in
    let l : c.half-2.result ≡ half c.args.low = simp (to_z-of_z c.ranges.low) at c.half-2.ensures in
    omega (arith, h, l)
