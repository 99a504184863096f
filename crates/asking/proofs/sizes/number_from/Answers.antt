-- `asking::sizes::number_from` meets its contract. The next word is the first that is asked; an empty one is no number.
-- Assumes nothing.
use mathlib.Core.Path.{◌∙◌}
use Rattle.asking.proofs.Choices.{number_first}
use Rattle.asking.proofs.sizes.number_from.Goals as goal

pub returns : goal.returns
returns c = c.natural_in.ensures ∙ number_first c.args.line.now c.args.at c.next_word-w.result c.next_word-w.ensures
