-- `clean::lines::early` meets its contract: 'end' and 'else' of a statement begin a line. Assumes nothing.
use Prim.Native.Nat.{◌-◌}
use mathlib.Core.Path.{ap, ◌∙◌}
use borrow.Author.Tests.{ne_eqb, eq-eqb}
use Rattle.clean.specs.model.Pen.{line_of}
use Rattle.clean.proofs.lines.early.Goals as goal

pub returns-then-kind-eq-END : goal.returns-then-kind-eq-END
returns-then-kind-eq-END c = rw c.if-kind-eq-END.true (c.line.ensures ∙ ap (line_of c.args.s) (c.less.ensures ∙ ap (λ t. t - 1) c.top.ensures))

pub returns-then-s-eq0 : goal.returns-then-s-eq0
returns-then-s-eq0 c = rw (c.if-kind-eq-ELSE.true, eq-eqb _ _ c.if-s-eq0.true) (c.line-then-s-eq0.ensures ∙ ap (line_of c.args.s) c.less-then-s-eq0.ensures)

pub returns-else-s-eq0 : goal.returns-else-s-eq0
returns-else-s-eq0 c = rw (c.if-kind-eq-ELSE.true, ne_eqb _ _ c.if-s-eq0.false)

pub returns-else-kind-eq-ELSE : goal.returns-else-kind-eq-ELSE
returns-else-kind-eq-ELSE c = rw (ne_eqb _ _ c.if-kind-eq-END.false, ne_eqb _ _ c.if-kind-eq-ELSE.false)
