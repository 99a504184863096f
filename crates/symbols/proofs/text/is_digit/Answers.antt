-- `symbols::text::is_digit` meets its contract: the library's digits are these.
-- Assumes nothing.
use mathlib.Core.Path.{◌∙◌}
use Rattle.symbols.proofs.Ascii.{digit_digit}
use Rattle.symbols.proofs.text.is_digit.Goals as goal

pub returns : goal.returns
returns c = c.is_ascii_digit.ensures.value ∙ digit_digit c.args.b
