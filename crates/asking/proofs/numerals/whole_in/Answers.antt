-- `asking::numerals::whole_in` meets its contract. The first byte says which sign there is; the callees read the digits behind it.
-- Assumes nothing.
use mathlib.Core.Path.{sym, ap, ◌∙◌}
use native.Mathlib.Omega.{arith}
use lib.ListN.{length}
use borrow.Author.Tests.{eqb-true, eqb-false}
use borrow.Author.Rules.{part_to_end}
use Rattle.asking.specs.Numerals.{natural_of}
use Rattle.asking.proofs.Spelling.{whole_none, whole_minus, whole_plus, whole_bare}
use Rattle.asking.proofs.numerals.whole_in.Goals as goal

pub returns-then-is_empty : goal.returns-then-is_empty
returns-then-is_empty c = sym (whole_none _ (eqb-true (length c.args.text.now) 0 (sym c.is_empty.ensures ∙ c.if-is_empty.true)))

pub returns-then-b-eq45 : goal.returns-then-b-eq45
returns-then-b-eq45 c =
    let s = c.args.text.now in
    let e = c.natural_in.ensures ∙ ap natural_of (part_to_end s 1) in
    c.negative.ensures ∙ rw e (sym (whole_minus s (omega (arith, eqb-false (length c.args.text.now) 0 (sym c.is_empty.ensures ∙ c.if-is_empty.false))) c.if-b-eq45.true))

pub returns-then-b-eq43 : goal.returns-then-b-eq43
returns-then-b-eq43 c =
    let s = c.args.text.now in
    let e = c.natural_in-then-b-eq43.ensures ∙ ap natural_of (part_to_end s 1) in
    c.positive.ensures ∙ rw e (sym (whole_plus s (omega (arith, eqb-false (length c.args.text.now) 0 (sym c.is_empty.ensures ∙ c.if-is_empty.false))) c.if-b-eq43.true))

pub returns : goal.returns
returns c =
    c.positive-2.ensures ∙ rw c.natural_in-2.ensures (sym (whole_bare c.args.text.now (omega (arith, eqb-false (length c.args.text.now) 0 (sym c.is_empty.ensures ∙ c.if-is_empty.false))) c.if-b-eq45.false c.if-b-eq43.false))
