-- `deed::code::tell` meets its contract. The status is of what translate answers, whatever is shown.
-- Assumes nothing.
use Rattle.deed.proofs.code.tell.Goals as goal

pub returns-in-Accepted : goal.returns-in-Accepted
returns-in-Accepted c =
    record {
      verdict = c.translate-v.result;
      holds = (c.translate-v.new.code, c.translate-v.ensures.translates);
      told = c.of_verdict-ended.ensures;
    }

pub returns-in-Refused : goal.returns-in-Refused
returns-in-Refused c =
    record {
      verdict = c.translate-v.result;
      holds = (c.translate-v.new.code, c.translate-v.ensures.translates);
      told = c.of_verdict-ended.ensures;
    }
