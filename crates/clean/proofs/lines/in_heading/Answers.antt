-- `clean::lines::in_heading` meets its contract: the next symbol tells whether the heading goes on. Assumes nothing.
use mathlib.Core.Path.{sym, ◌∙◌}
use Rattle.clean.proofs.Turns.{heading_on, heading_ends}
use Rattle.clean.proofs.lines.in_heading.Goals as goal

pub returns-then-headed : goal.returns-then-headed
returns-then-headed c = heading_on _ _ _ _ (sym c.headed.ensures ∙ c.if-headed.true) c.line.ensures

pub returns : goal.returns
returns c = heading_ends _ _ _ _ _ (sym c.headed.ensures ∙ c.if-headed.false) c.push.ensures c.opened.ensures
