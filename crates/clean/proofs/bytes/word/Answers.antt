-- `clean::bytes::word` meets its contract: the bytes from the index on are left. Assumes nothing.
use native.Mathlib.Omega.{arith}
use Rattle.clean.proofs.Putting.{none_put, more_put, all_put, word_next, word_none}
use Rattle.clean.proofs.bytes.word.Goals as goal

pub loop-b-init : goal.loop-b-init
loop-b-init c = (omega arith, none_put _ _ _)

pub loop-b-preserved : goal.loop-b-preserved
loop-b-preserved c = (omega (arith, c.put-to.ensures.behind), more_put c.loop-b.invariant.1 (word_next c.args.w.now c.loop-b.b-index (omega arith)) c.put-to.ensures)

pub returns : goal.returns
returns c = all_put c.loop-b.invariant.1 (word_none c.args.w.now c.loop-b.b-index (omega arith))
