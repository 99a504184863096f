-- `symbols::text::is_letter` meets its contract: the library's letters are these.
-- Assumes nothing.
use mathlib.Core.Path.{◌∙◌}
use Rattle.symbols.proofs.Ascii.{alphabetic_letter}
use Rattle.symbols.proofs.text.is_letter.Goals as goal

pub returns : goal.returns
returns c = c.is_ascii_alphabetic.ensures.value ∙ alphabetic_letter c.args.b
