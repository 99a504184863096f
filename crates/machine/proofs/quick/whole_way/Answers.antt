-- The formals from the outermost on: those left decide as all do.
use mathlib.Core.Bool.{false≢true}
use Rattle.machine.proofs.Numbers.{way_none, way_more}
use Rattle.machine.proofs.quick.whole_way.Goals as goal

pub loop-j-preserved : goal.loop-j-preserved
loop-j-preserved c = λ w. c.loop-j.invariant (way_more c.args.own.now c.loop-j.j c.loop-j-test.true c.link_form.ensures c.in-Wholes.is w)

pub returns-in_default : goal.returns-in_default
returns-in_default c = λ e. absurd (false≢true e)

pub returns : goal.returns
returns c = λ e. c.loop-j.invariant (way_none c.args.own.now c.loop-j.j c.loop-j-test.false)
