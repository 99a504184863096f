-- `figures::writing::write_real` meets its contract: by the length of the row, the exponent's field and the sign.
-- Assumes nothing.
use mathlib.Core.Path.{ap}
use native.Mathlib.Omega.{arith}
use Rattle.figures.specs.Written.{decimal_text}
use Rattle.figures.proofs.Rows.{puts_then, puts_as, row_short, row_none, row_negative, row_positive}
use Rattle.figures.proofs.writing.write_real.Goals as goal
use Rattle.figures.proofs.writing.write_real.Goals.{then-row-lt32-via-then-row-lt32, then-row-lt32-via-else-row-lt32+then-x-eq2047}

pub returns-then-row-lt32 : goal.returns-then-row-lt32
returns-then-row-lt32 c = elim c.then-row-lt32.branch [
  | then-row-lt32-via-then-row-lt32 w ↦ row_short c.args.row.now c.args.bits w.if-row-lt32.true
  | then-row-lt32-via-else-row-lt32+then-x-eq2047 w ↦ row_none c.args.row.now c.args.bits w.if-x-eq2047.true
]

pub returns-then-bits-ge9223372036854775808 : goal.returns-then-bits-ge9223372036854775808
returns-then-bits-ge9223372036854775808 c =
    let a = c.args in
    row_negative a.row.now a.bits _ _ c.if-row-lt32.false c.if-x-eq2047.false c.if-bits-ge9223372036854775808.true (puts_then c.put-at.ensures (puts_as (ap decimal_text c.figures_of-d.ensures.is) c.put_decimal.ensures) (omega (arith, c.put-at.ensures.behind, c.if-row-lt32.false)))

pub returns : goal.returns
returns c =
    let a = c.args in
    row_positive a.row.now a.bits _ _ c.if-row-lt32.false c.if-x-eq2047.false c.if-bits-ge9223372036854775808.false (puts_as (ap decimal_text c.figures_of-d.ensures.is) c.put_decimal-2.ensures)
