-- `syntax::text::peek` meets its contract. Assumes nothing.
use mathlib.Core.Path.{sym, ap, ◌∙◌}
use Rattle.symbols.specs.Symbols.{kind}
use Rattle.grammar.proofs.Peeks.{text_at, text_past}
use Rattle.syntax.proofs.text.peek.Goals as goal

pub returns-then-i-kinds : goal.returns-then-i-kinds
returns-then-i-kinds c = ap kind c.decode.ensures ∙ sym (text_at c.args.kinds.now c.args.i 0 c.if-i-kinds.true)

pub returns-else-i-kinds : goal.returns-else-i-kinds
returns-else-i-kinds c = sym (text_past c.args.kinds.now c.args.i c.if-i-kinds.false)
