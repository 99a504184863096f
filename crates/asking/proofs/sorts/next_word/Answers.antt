-- `asking::sorts::next_word` meets its contract. It is the first of its sort.
-- Assumes nothing.
use Rattle.asking.proofs.sorts.next_word.Goals as goal

pub returns : goal.returns
returns c = c.first.ensures
