-- `asking::words::laid` meets its contract. By what is asked: a list's byte, or another text's.
-- Assumes nothing.
use Rattle.asking.proofs.words.laid.Goals as goal

pub returns-then-list : goal.returns-then-list
returns-then-list c = rw c.if-list.true c.unlist.ensures

pub returns : goal.returns
returns c = rw c.if-list.false c.unblank.ensures
