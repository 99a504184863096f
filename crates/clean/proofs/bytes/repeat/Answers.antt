-- `clean::bytes::repeat` meets its contract: as many bytes are left as turns. Assumes nothing.
use native.Mathlib.Omega.{arith}
use Rattle.clean.proofs.Putting.{none_put, more_put, all_put, left_as, times_all, times_next, times_none}
use Rattle.clean.proofs.bytes.repeat.Goals as goal

pub loop-init : goal.loop-init
loop-init c = (omega arith, left_as (none_put _ _ _) (times_all c.args.times c.args.b))

pub loop-preserved : goal.loop-preserved
loop-preserved c = (omega (arith, c.put-to.ensures.behind), more_put c.loop.invariant.1 (times_next c.args.times c.loop.counter c.args.b (omega arith)) c.put-to.ensures)

pub returns : goal.returns
returns c = all_put c.loop.invariant.1 (times_none c.args.times c.loop.counter c.args.b (omega arith))
