-- `asking::lists::sent_in` meets its contract. The first byte says which sign there is; the callees read the digits behind it.
-- Assumes nothing.
use mathlib.Core.Path.{sym, ◌∙◌}
use native.Mathlib.Omega.{arith}
use lib.ListN.{length}
use borrow.Author.Tests.{eqb-true, eqb-false}
use borrow.Author.Rules.{part_to_end}
use Rattle.asking.proofs.Sending.{sent_empty, sent_minus, sent_plus, sent_bare}
use Rattle.asking.proofs.lists.sent_in.Goals as goal

pub returns-then-is_empty : goal.returns-then-is_empty
returns-then-is_empty c = sym (sent_empty _ (eqb-true (length c.args.text.now) 0 (sym c.is_empty.ensures ∙ c.if-is_empty.true)))

pub returns-then-b-eq45 : goal.returns-then-b-eq45
returns-then-b-eq45 c =
    let s = c.args.text.now in
    c.below.ensures ∙ rw (part_to_end s 1) (sym (sent_minus s (omega (arith, eqb-false (length c.args.text.now) 0 (sym c.is_empty.ensures ∙ c.if-is_empty.false))) c.if-b-eq45.true))

pub returns-then-b-eq43 : goal.returns-then-b-eq43
returns-then-b-eq43 c =
    let s = c.args.text.now in
    c.magnitude.ensures ∙ rw (part_to_end s 1) (sym (sent_plus s (omega (arith, eqb-false (length c.args.text.now) 0 (sym c.is_empty.ensures ∙ c.if-is_empty.false))) c.if-b-eq45.false c.if-b-eq43.true))

pub returns : goal.returns
returns c =
    let s = c.args.text.now in
    c.magnitude-2.ensures ∙ sym (sent_bare s (omega (arith, eqb-false (length c.args.text.now) 0 (sym c.is_empty.ensures ∙ c.if-is_empty.false))) c.if-b-eq45.false c.if-b-eq43.false)
