-- `symbols::text::is_name_byte` meets its contract. By what the two callees tell.
-- Assumes nothing.
use mathlib.Core.Path.{sym, ◌∙◌}
use Rattle.symbols.specs.Names.{in_name}
use Rattle.symbols.proofs.text.is_name_byte.Goals as goal

pub returns-then-is_letter : goal.returns-then-is_letter
unfolding in_name
returns-then-is_letter c = simp (sym c.is_letter.ensures ∙ c.if-is_letter.true) c.if-is_letter.true

pub returns-else-is_letter : goal.returns-else-is_letter
unfolding in_name
returns-else-is_letter c = simp (sym c.is_letter.ensures ∙ c.if-is_letter.false) c.is_digit.ensures
