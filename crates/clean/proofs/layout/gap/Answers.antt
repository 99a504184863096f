-- `clean::layout::gap` meets its contract: lines begun, or a space, or nothing. Assumes nothing.
use Prim.Native.Nat.{ℕ}
use mathlib.Core.Path.{sym, ◌∙◌}
use native.Mathlib.Omega.{arith}
use borrow.Author.Tests.{ne_eqb, eq-eqb}
use lib.ListN.{length-replicate}
use Rattle.clean.proofs.Putting.{puts_none, puts_on}
use Rattle.clean.proofs.layout.gap.Goals as goal

pub returns-then-tight : goal.returns-then-tight
returns-then-tight c = rw (eq-eqb _ _ c.if-s-eq0.true, sym c.tight.ensures ∙ c.if-tight.true) (puts_none _ _)

pub returns-then-s-eq0 : goal.returns-then-s-eq0
returns-then-s-eq0 c = rw (eq-eqb _ _ c.if-s-eq0.true, sym c.tight.ensures ∙ c.if-tight.false) c.put.ensures

pub repeat-requires : goal.repeat-requires
repeat-requires c = omega (arith, c.repeat-to.ensures.behind, length-replicate {A = ℕ} c.args.s.lines 10, c.requires.1.lines, c.requires.1.line)

pub returns : goal.returns
returns c = rw (ne_eqb _ _ c.if-s-eq0.false) (puts_on c.repeat-to.ensures c.repeat.ensures)
