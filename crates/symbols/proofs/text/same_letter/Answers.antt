-- `symbols::text::same_letter` meets its contract: the library folds both as `folded` does.
-- Assumes nothing.
use mathlib.Core.Path.{◌∙◌}
use Rattle.symbols.proofs.Ascii.{lowercase_folded}
use Rattle.symbols.proofs.text.same_letter.Goals as goal

pub returns-else-a-b : goal.returns-else-a-b
returns-else-a-b c = c.eq_ignore_ascii_case.ensures ∙ rw (lowercase_folded c.args.a, lowercase_folded c.args.b)
