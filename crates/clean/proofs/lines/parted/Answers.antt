-- `clean::lines::parted` meets its contract: each test has told its case. Assumes nothing.
use borrow.Author.Tests.{ne_eqb, eq-eqb}
use Rattle.clean.proofs.lines.parted.Goals as goal

pub returns-then-kind-eq-THEN : goal.returns-then-kind-eq-THEN
returns-then-kind-eq-THEN c = rw (eq-eqb _ _ c.if-s-eq0.true, eq-eqb _ _ c.if-kind-eq-THEN.true) c.inward.ensures

pub returns-then-s-eq0 : goal.returns-then-s-eq0
returns-then-s-eq0 c = rw (eq-eqb _ _ c.if-s-eq0.true, ne_eqb _ _ c.if-kind-eq-THEN.false) c.line.ensures

pub returns-then-kind-eq-ELSE : goal.returns-then-kind-eq-ELSE
returns-then-kind-eq-ELSE c = rw (ne_eqb _ _ c.if-s-eq0.false, c.if-kind-eq-ELSE.true)

pub returns : goal.returns
returns c = rw (ne_eqb _ _ c.if-s-eq0.false, ne_eqb _ _ c.if-kind-eq-ELSE.false)
