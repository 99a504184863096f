-- `figures::writing::put_digits` meets its contract: i digits are left to put, those of the rest.
-- Assumes nothing.
use Rattle.figures.proofs.Rows.{left_all, left_less, left_none}
use Rattle.figures.proofs.writing.put_digits.Goals as goal

pub loop-i-init : goal.loop-i-init
loop-i-init c = left_all c.args.row.now c.args.at c.args.n c.args.c

pub loop-i-preserved : goal.loop-i-preserved
loop-i-preserved c =
    let args = c.args in
    left_less args.row.now args.at args.n args.c c.loop-i.row c.loop-i.rest c.loop-i.i c.requires c.loop-i-test.true c.loop-i.invariant

pub returns : goal.returns
returns c =
    let args = c.args in
    left_none args.row.now args.at args.n args.c c.loop-i.row c.loop-i.rest c.loop-i.i c.loop-i-test.false c.loop-i.invariant
