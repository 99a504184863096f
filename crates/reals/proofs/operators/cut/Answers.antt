-- The divisor is tested first; the quotient of two numbers of 32 bits is one of 64.
use Rattle.std.proofs.Common.{to_z-of_z, w32, w64}
use mir.Facts.{sfits_widen}
use Rattle.reals.specs.Values.{cut}
use Rattle.reals.proofs.Signed.{zero_yes, zero_no, wide_fits, wide_same, quot_fits, bits_pos, not_zero_bits}
use Rattle.reals.proofs.operators.cut.Goals as goal

pub returns-then-y-eq0 : goal.returns-then-y-eq0
unfolding cut
returns-then-y-eq0 c = simp (zero_yes w32 c.ranges.y c.if-y-eq0.true)

pub overflow_cast-x : goal.overflow_cast-x
overflow_cast-x c = wide_fits w32 w64 tt c.ranges.x

pub overflow_cast-y : goal.overflow_cast-y
overflow_cast-y c = wide_fits w32 w64 tt c.ranges.y

pub nonzero_div-x : goal.nonzero_div-x
nonzero_div-x c = (simp (to_z-of_z c.ranges.y) (bits_pos _ (not_zero_bits w64 (sfits_widen tt c.ranges.y) (zero_no w32 c.args.y c.if-y-eq0.false))), rw (wide_same w32 w64 tt c.ranges.x, wide_same w32 w64 tt c.ranges.y) (quot_fits w32 w64 tt c.args.y c.ranges.x))

pub returns : goal.returns
unfolding cut
returns c = simp (zero_no w32 c.args.y c.if-y-eq0.false) (simp (wide_same w32 w64 tt c.ranges.x, wide_same w32 w64 tt c.ranges.y, to_z-of_z (quot_fits w32 w64 tt c.args.y c.ranges.x)) at c.whole.ensures)
