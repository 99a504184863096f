-- `figures::writing::put_plain` meets its contract: a point is put into the digits, or zeros behind them.
-- Assumes nothing.
use mathlib.Core.Path.{sym, ap, ◌∙◌, subst}
use Prim.Native.Nat.{◌<◌, ◌^◌}
use native.Mathlib.Omega.{arith}
use native.Mathlib.Nat.{lt_trans}
use lib.Dec.{lit<, lit≤}
use Rattle.figures.specs.Written.{pointed}
use Rattle.figures.proofs.Rows.{puts_as, plain_up, plain_down}
use Rattle.figures.proofs.writing.put_plain.Goals as goal

pub overflow_add-d : goal.overflow_add-d
overflow_add-d c = omega (arith, c.requires.2.small.up)

pub with_zeros-requires : goal.with_zeros-requires
with_zeros-requires c = lt_trans c.requires.2.below (lit< tt)

pub put_pointed-requires : goal.put_pointed-requires
put_pointed-requires c = (c.requires.0, subst (λ x. x < 10 ^ 18) (sym c.with_zeros.ensures) c.requires.2.below, lit≤ tt, c.requires.1)

pub shape_of-row-then-d : goal.shape_of-row-then-d
shape_of-row-then-d c = c.put_pointed.ensures.puts.size

pub returns-then-d : goal.returns-then-d
returns-then-d c = puts_as (ap (λ x. pointed x 1) c.with_zeros.ensures ∙ plain_up c.args.d c.if-d.true) c.put_pointed.ensures.puts

pub overflow_sub-d-2 : goal.overflow_sub-d-2
overflow_sub-d-2 c = omega (arith, c.if-d.false)

pub put_pointed-requires-2 : goal.put_pointed-requires-2
put_pointed-requires-2 c = (c.requires.0, lt_trans c.requires.2.small.figures (lit< tt), omega (arith, c.requires.2.behind), c.requires.1)

pub shape_of-row : goal.shape_of-row
shape_of-row c = c.put_pointed-2.ensures.puts.size

pub returns : goal.returns
returns c = puts_as (plain_down c.args.d c.if-d.false) c.put_pointed-2.ensures.puts
