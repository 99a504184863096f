-- A sum, a difference or a product of two numbers of 32 bits is one of 64; a comparison is one of the numbers or of their bits.
use Rattle.std.proofs.Common.{to_z-of_z, w32, w64}
use Rattle.reals.specs.Values.{apply2, on_numbers, both_of}
use Rattle.reals.proofs.Signed.{wide_fits, wide_same, sum_fits, diff_fits, prod_fits, same_bits}
use Rattle.reals.proofs.operators.wholes.Goals as goal

pub overflow_cast-x : goal.overflow_cast-x
overflow_cast-x c = wide_fits w32 w64 tt c.ranges.x

pub overflow_cast-y : goal.overflow_cast-y
overflow_cast-y c = wide_fits w32 w64 tt c.ranges.y

pub overflow_add-x : goal.overflow_add-x
overflow_add-x c = rw (wide_same w32 w64 tt c.ranges.x, wide_same w32 w64 tt c.ranges.y) (sum_fits w32 w64 tt c.ranges.x c.ranges.y)

pub overflow_cast-x-in-Less : goal.overflow_cast-x-in-Less
overflow_cast-x-in-Less c = wide_fits w32 w64 tt c.ranges.x

pub overflow_cast-y-in-Less : goal.overflow_cast-y-in-Less
overflow_cast-y-in-Less c = wide_fits w32 w64 tt c.ranges.y

pub overflow_sub-x : goal.overflow_sub-x
overflow_sub-x c = rw (wide_same w32 w64 tt c.ranges.x, wide_same w32 w64 tt c.ranges.y) (diff_fits w32 w64 tt c.ranges.x c.ranges.y)

pub overflow_cast-x-in-Times : goal.overflow_cast-x-in-Times
overflow_cast-x-in-Times c = wide_fits w32 w64 tt c.ranges.x

pub overflow_cast-y-in-Times : goal.overflow_cast-y-in-Times
overflow_cast-y-in-Times c = wide_fits w32 w64 tt c.ranges.y

pub overflow_mul-x : goal.overflow_mul-x
overflow_mul-x c = rw (wide_same w32 w64 tt c.ranges.x, wide_same w32 w64 tt c.ranges.y) (prod_fits w32 w64 tt c.ranges.x c.ranges.y)

pub returns-in-Plus : goal.returns-in-Plus
unfolding apply2 on_numbers both_of
returns-in-Plus c = simp c.in-Plus.is (simp (wide_same w32 w64 tt c.ranges.x, wide_same w32 w64 tt c.ranges.y, to_z-of_z (sum_fits w32 w64 tt c.ranges.x c.ranges.y)) at c.whole.ensures)

pub returns-in-Less : goal.returns-in-Less
unfolding apply2 on_numbers both_of
returns-in-Less c = simp c.in-Less.is (simp (wide_same w32 w64 tt c.ranges.x, wide_same w32 w64 tt c.ranges.y, to_z-of_z (diff_fits w32 w64 tt c.ranges.x c.ranges.y)) at c.whole-in-Less.ensures)

pub returns-in-Times : goal.returns-in-Times
unfolding apply2 on_numbers both_of
returns-in-Times c = simp c.in-Times.is (simp (wide_same w32 w64 tt c.ranges.x, wide_same w32 w64 tt c.ranges.y, to_z-of_z (prod_fits w32 w64 tt c.ranges.x c.ranges.y)) at c.whole-in-Times.ensures)

pub returns-in-Over : goal.returns-in-Over
unfolding apply2 on_numbers both_of
returns-in-Over c = simp c.in-Over.is (simp (to_z-of_z c.ranges.x, to_z-of_z c.ranges.y) at c.cut.ensures)

pub returns-in-Divide : goal.returns-in-Divide
unfolding apply2 on_numbers both_of
returns-in-Divide c = simp c.in-Divide.is (simp (to_z-of_z c.ranges.x, to_z-of_z c.ranges.y) at c.quotient.ensures)

pub returns-in-Below : goal.returns-in-Below
unfolding apply2 on_numbers both_of
returns-in-Below c = simp (c.in-Below.is, to_z-of_z c.ranges.x, to_z-of_z c.ranges.y)

pub returns-in-AtMost : goal.returns-in-AtMost
unfolding apply2 on_numbers both_of
returns-in-AtMost c = simp (c.in-AtMost.is, to_z-of_z c.ranges.x, to_z-of_z c.ranges.y)

pub returns-in-Equal : goal.returns-in-Equal
unfolding apply2 on_numbers both_of
returns-in-Equal c = simp (c.in-Equal.is, same_bits w32 c.ranges.x c.ranges.y)

pub returns-in-AtLeast : goal.returns-in-AtLeast
unfolding apply2 on_numbers both_of
returns-in-AtLeast c = simp (c.in-AtLeast.is, to_z-of_z c.ranges.x, to_z-of_z c.ranges.y)

pub returns-in-Above : goal.returns-in-Above
unfolding apply2 on_numbers both_of
returns-in-Above c = simp (c.in-Above.is, to_z-of_z c.ranges.x, to_z-of_z c.ranges.y)

pub returns-in-Unequal : goal.returns-in-Unequal
unfolding apply2 on_numbers both_of
returns-in-Unequal c = simp (c.in-Unequal.is, same_bits w32 c.ranges.x c.ranges.y)
