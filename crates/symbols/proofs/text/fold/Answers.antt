-- `symbols::text::fold` meets its contract: the library folds as `folded` does.
-- Assumes nothing.
use mathlib.Core.Path.{◌∙◌}
use Rattle.symbols.proofs.Ascii.{lowercase_folded}
use Rattle.symbols.proofs.text.fold.Goals as goal

pub returns : goal.returns
returns c = c.to_ascii_lowercase.ensures.value ∙ lowercase_folded c.args.b
