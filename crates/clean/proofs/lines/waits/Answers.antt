-- `clean::lines::waits` meets its contract: the case of `begins` is told. Assumes nothing.
use Rattle.clean.proofs.lines.waits.Goals as goal

pub returns-then-begins : goal.returns-then-begins
returns-then-begins c = rw c.if-begins.true

pub returns : goal.returns
returns c = rw c.if-begins.false
