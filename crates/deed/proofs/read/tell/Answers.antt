-- `deed::read::tell` meets its contract. The status is of what read answers, whatever is shown.
-- Assumes nothing.
use Rattle.deed.proofs.read.tell.Goals as goal

pub returns : goal.returns
returns c =
    record {
      verdict = c.read-v.result;
      holds = (c.read-v.new.table, c.read-v.ensures);
      told = c.of_verdict.ensures;
    }
