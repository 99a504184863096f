-- `figures::writing::put_scientific` meets its contract: the digits with a point, then the power of ten.
-- Assumes nothing.
use mathlib.Core.Path.{◌∙◌}
use native.Mathlib.Omega.{arith}
use native.Mathlib.Nat.{lt_trans}
use lib.Dec.{lit<, lit≤}
use Rattle.figures.proofs.Rows.{puts_as, puts_then, one_digit, more_digits}
use Rattle.figures.proofs.writing.put_scientific.Goals as goal

pub overflow_mul-d : goal.overflow_mul-d
overflow_mul-d c = omega (arith, c.requires.2.figures)

pub put_pointed-to-requires : goal.put_pointed-to-requires
put_pointed-to-requires c = (c.requires.0, omega (arith, c.requires.2.figures), lit≤ tt, c.requires.1)

pub put_power-requires : goal.put_power-requires
put_power-requires c = (c.put_pointed-to.ensures.upper_bound, lt_trans c.requires.2.up (lit< tt), lt_trans c.requires.2.down (lit< tt), omega (arith, c.put_pointed-to.ensures.puts.size, c.requires.1))

pub shape_of-row-then-n-lt2 : goal.shape_of-row-then-n-lt2
shape_of-row-then-n-lt2 c = c.put_power.ensures.size ∙ c.put_pointed-to.ensures.puts.size

pub returns-then-n-lt2 : goal.returns-then-n-lt2
returns-then-n-lt2 c = puts_as (one_digit c.args.d c.args.n c.if-n-lt2.true) (puts_then c.put_pointed-to.ensures.puts c.put_power.ensures (omega (arith, c.put_pointed-to.ensures.upper_bound, c.requires.1)))

pub overflow_sub-n : goal.overflow_sub-n
overflow_sub-n c = omega (arith, c.if-n-lt2.false)

pub put_pointed-to-requires-2 : goal.put_pointed-to-requires-2
put_pointed-to-requires-2 c = (c.requires.0, lt_trans c.requires.2.figures (lit< tt), omega (arith, c.requires.3), c.requires.1)

pub overflow_sub-n-2 : goal.overflow_sub-n-2
overflow_sub-n-2 c = omega (arith, c.if-n-lt2.false)

pub overflow_add-n : goal.overflow_add-n
overflow_add-n c = omega (arith, c.requires.3, c.requires.2.up)

pub put_power-requires-2 : goal.put_power-requires-2
put_power-requires-2 c = (c.put_pointed-to-2.ensures.upper_bound, omega (arith, c.requires.3, c.requires.2.up), lt_trans c.requires.2.down (lit< tt), omega (arith, c.put_pointed-to-2.ensures.puts.size, c.requires.1))

pub shape_of-row : goal.shape_of-row
shape_of-row c = c.put_power-2.ensures.size ∙ c.put_pointed-to-2.ensures.puts.size

pub returns : goal.returns
returns c = puts_as (more_digits c.args.d c.args.n c.if-n-lt2.false) (puts_then c.put_pointed-to-2.ensures.puts c.put_power-2.ensures (omega (arith, c.put_pointed-to-2.ensures.upper_bound, c.requires.1)))
