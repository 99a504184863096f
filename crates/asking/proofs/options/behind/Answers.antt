-- `asking::options::behind` meets its contract. Behind an option the next word is its number, or nothing is left.
-- Assumes nothing.
use mathlib.Core.Path.{sym, ◌∙◌}
use native.Mathlib.Omega.{arith}
use Rattle.asking.proofs.Choices.{asked_others}
use Rattle.asking.proofs.options.behind.Goals as goal

pub returns-then-is_option : goal.returns-then-is_option
returns-then-is_option c =
    let h = c.next_word-v.ensures in
    record {
      words = rw (sym c.is_option.ensures ∙ c.if-is_option.true) (asked_others c.args.line.now c.args.to c.next_word-v.result h);
      onward = omega (arith, h.onward, h.ordered, c.requires);
      inside = h.inside;
    }

pub returns : goal.returns
returns c =
    record {
      words = rw (sym c.is_option.ensures ∙ c.if-is_option.false);
      onward = omega arith;
      inside = c.requires.1;
    }
