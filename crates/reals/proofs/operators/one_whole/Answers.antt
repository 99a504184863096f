-- Each operator on its own; the absolute value goes by the sign.
use Rattle.std.proofs.Common.{sym, to_z-of_z, w32, w64}
use Rattle.reals.specs.Values.{apply1}
use Rattle.reals.proofs.Signed.{wide_fits, wide_same, neg_fits, zero_minus, absolute_below, absolute_above, whole_is}
use Rattle.reals.proofs.operators.one_whole.Goals as goal

pub overflow_cast-x : goal.overflow_cast-x
overflow_cast-x c = wide_fits w32 w64 tt c.ranges.x

pub overflow_sub-x : goal.overflow_sub-x
overflow_sub-x c = rw (wide_same w32 w64 tt c.ranges.x, zero_minus c.args.x) (neg_fits w32 w64 tt c.ranges.x)

pub overflow_cast-x-in-Absolute : goal.overflow_cast-x-in-Absolute
overflow_cast-x-in-Absolute c = wide_fits w32 w64 tt c.ranges.x

pub overflow_sub-x-in-Absolute : goal.overflow_sub-x-in-Absolute
overflow_sub-x-in-Absolute c = rw (wide_same w32 w64 tt c.ranges.x, zero_minus c.args.x) (neg_fits w32 w64 tt c.ranges.x)

pub returns-in-Absolute : goal.returns-in-Absolute
unfolding apply1
returns-in-Absolute c = simp (c.in-Absolute.is, sym (absolute_below c.args.x (simp (to_z-of_z c.ranges.x) at c.if-x-lt0.true))) (simp (wide_same w32 w64 tt c.ranges.x, zero_minus c.args.x, to_z-of_z (neg_fits w32 w64 tt c.ranges.x)) at c.whole-in-Absolute.ensures)

pub returns-in-Minus : goal.returns-in-Minus
unfolding apply1
returns-in-Minus c = simp c.in-Minus.is (simp (wide_same w32 w64 tt c.ranges.x, zero_minus c.args.x, to_z-of_z (neg_fits w32 w64 tt c.ranges.x)) at c.whole.ensures)

pub returns-in-Absolute-2 : goal.returns-in-Absolute-2
unfolding apply1
returns-in-Absolute-2 c = simp (c.in-Absolute.is, absolute_above c.args.x (simp (to_z-of_z c.ranges.x) at c.if-x-lt0.false), whole_is c.args.x c.ranges.x, to_z-of_z c.ranges.x)

pub returns-in-Negation : goal.returns-in-Negation
unfolding apply1
returns-in-Negation c = simp c.in-Negation.is
