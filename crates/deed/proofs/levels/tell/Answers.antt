-- `deed::levels::tell` meets its contract. The status is of what read answers, whatever is shown.
-- Assumes nothing.
use Rattle.deed.proofs.levels.tell.Goals as goal

pub returns-in-Accepted : goal.returns-in-Accepted
returns-in-Accepted c =
    record {
      verdict = c.read-v.result;
      holds = (c.read-v.new.table, c.read-v.ensures);
      told = c.of_verdict-ended.ensures;
    }

pub returns-in-Refused : goal.returns-in-Refused
returns-in-Refused c =
    record {
      verdict = c.read-v.result;
      holds = (c.read-v.new.table, c.read-v.ensures);
      told = c.of_verdict-ended.ensures;
    }
