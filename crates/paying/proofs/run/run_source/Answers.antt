-- `paying::run::run_source` meets its contract. The source is refused, or the words that translate left are run.
-- Assumes nothing.
use Rattle.paying.proofs.Running.{accepted_told, refused_told}
use Rattle.paying.proofs.run.run_source.Goals as goal

pub returns-in-Accepted : goal.returns-in-Accepted
returns-in-Accepted c =
    record {
      verdict = c.translate.result;
      words = c.translate.new.code;
      translates = c.translate.ensures.translates;
      told = accepted_told _ _ c.translate.result _ c.in-Accepted.is c.run_code.result c.run_code.ensures;
    }

pub returns-in-Refused : goal.returns-in-Refused
returns-in-Refused c =
    record {
      verdict = c.translate.result;
      words = c.translate.new.code;
      translates = c.translate.ensures.translates;
      told = refused_told _ _ c.translate.result _ _ c.in-Refused.is;
    }
