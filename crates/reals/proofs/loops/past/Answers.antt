-- The product is that of a number of 33 bits and a sign.
use Rattle.std.proofs.Common.{to_z-of_z, w32, w64}
use Rattle.reals.specs.Values.{past}
use Rattle.reals.proofs.Signed.{wide_fits, wide_same, diff_fits, past_fits, sign_fits}
use Rattle.reals.proofs.loops.past.Goals as goal

pub overflow_cast-result : goal.overflow_cast-result
overflow_cast-result c = wide_fits w32 w64 tt c.ranges.v

pub overflow_cast-result-2 : goal.overflow_cast-result-2
overflow_cast-result-2 c = wide_fits w32 w64 tt c.ranges.y

pub overflow_sub-result : goal.overflow_sub-result
overflow_sub-result c = rw (wide_same w32 w64 tt c.ranges.v, wide_same w32 w64 tt c.ranges.y) (diff_fits w32 w64 tt c.ranges.v c.ranges.y)

pub overflow_mul-result : goal.overflow_mul-result
overflow_mul-result c = simp (wide_same w32 w64 tt c.ranges.v, wide_same w32 w64 tt c.ranges.y, to_z-of_z (diff_fits w32 w64 tt c.ranges.v c.ranges.y), simp (to_z-of_z c.ranges.x) at c.sign.ensures, to_z-of_z (sign_fits w64 c.args.x)) (past_fits w32 w64 tt c.ranges.v c.ranges.y c.args.x)

pub returns : goal.returns
unfolding past
returns c = simp (wide_same w32 w64 tt c.ranges.v, wide_same w32 w64 tt c.ranges.y, to_z-of_z (diff_fits w32 w64 tt c.ranges.v c.ranges.y), simp (to_z-of_z c.ranges.x) at c.sign.ensures, to_z-of_z (sign_fits w64 c.args.x), to_z-of_z (past_fits w32 w64 tt c.ranges.v c.ranges.y c.args.x))
