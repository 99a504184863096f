-- `figures::writing::put_power` meets its contract: the e, the sign and at most 4 digits, one behind the other.
-- Assumes nothing.
use mathlib.Core.Path.{◌∙◌}
use Prim.Native.Nat.{◌-◌, ◌<◌, ◌^◌}
use native.Mathlib.Omega.{arith}
use lib.Dec.{lit<}
use Rattle.figures.proofs.Rounding.{width_few}
use Rattle.figures.proofs.Rows.{puts_as, puts_then, power_up, power_down}
use Rattle.figures.proofs.writing.put_power.Goals as goal

pub put_digits-requires : goal.put_digits-requires
put_digits-requires c =
    let a = c.args in
    let k : a.a - a.b < 10 ^ 4 = omega (arith, c.requires.1) in
    omega (arith, width_few (a.a - a.b) 4 (lit< tt) k, c.width-w.ensures, c.put-sign.ensures.behind, c.put-sign.ensures.size, c.requires.0, c.requires.3)

pub shape_of-row-then-b-a : goal.shape_of-row-then-b-a
shape_of-row-then-b-a c = c.put_digits.ensures.size ∙ c.put-sign.ensures.size

pub returns-then-b-a : goal.returns-then-b-a
returns-then-b-a c =
    let a = c.args in
    puts_as (power_up a.a a.b c.width-w.result c.if-b-a.true c.width-w.ensures) (puts_then c.put-sign.ensures c.put_digits.ensures (omega (arith, c.put-sign.ensures.behind, c.requires.0, c.requires.3)))

pub put_digits-requires-2 : goal.put_digits-requires-2
put_digits-requires-2 c =
    let a = c.args in
    let k : a.b - a.a < 10 ^ 4 = omega (arith, c.requires.2) in
    omega (arith, width_few (a.b - a.a) 4 (lit< tt) k, c.width-w-2.ensures, c.put-sign.ensures.behind, c.put-sign.ensures.size, c.put-digit.ensures.behind, c.put-digit.ensures.size, c.requires.0, c.requires.3)

pub shape_of-row : goal.shape_of-row
shape_of-row c = c.put_digits-2.ensures.size ∙ c.put-digit.ensures.size ∙ c.put-sign.ensures.size

pub returns : goal.returns
returns c =
    let a = c.args in
    puts_as (power_down a.a a.b c.width-w-2.result c.if-b-a.false c.width-w-2.ensures)
    (puts_then c.put-sign.ensures (puts_then c.put-digit.ensures c.put_digits-2.ensures (omega (arith, c.put-sign.ensures.behind, c.put-sign.ensures.size, c.put-digit.ensures.behind, c.requires.0, c.requires.3))) (omega (arith, c.put-sign.ensures.behind, c.requires.0, c.requires.3)))
