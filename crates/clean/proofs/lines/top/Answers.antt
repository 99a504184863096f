-- `clean::lines::top` meets its contract: the newest is the last of the first n. Assumes nothing.
use Rattle.clean.proofs.Stacks.{top_is, top_none}
use Rattle.clean.proofs.lines.top.Goals as goal

pub returns-then-n-eq0 : goal.returns-then-n-eq0
returns-then-n-eq0 c = top_none c.args.held.now c.args.n c.if-n-eq0.true

pub returns : goal.returns
returns c = top_is c.args.held.now c.args.n c.if-n-eq0.false
