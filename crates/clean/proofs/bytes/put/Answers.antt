-- `clean::bytes::put` meets its contract: the byte is set down where the page reaches so far. Assumes nothing.
use lib.ListN.{length-set}
use Rattle.clean.proofs.Putting.{puts_one, puts_over}
use native.Mathlib.Omega.{arith}
use Rattle.clean.proofs.bytes.put.Goals as goal

pub returns-then-page-at : goal.returns-then-page-at
returns-then-page-at c = puts_over _ _ _ c.if-page-at.true

pub shape_of-page : goal.shape_of-page
shape_of-page c =
    let args = c.args in
    length-set args.page.now args.at args.b

pub returns : goal.returns
returns c = puts_one _ _ _ (omega arith)
