-- `asking::numerals::natural_in` meets its contract. The digits passed are kept as their value: with those from there on it is the value of all.
-- Assumes nothing.
use Rattle.std.proofs.Common.{◌≡◌, ◌+◌, ◌-◌, ◌*◌, refl, sym, ap, ◌∙◌, arith, get_or, drop, length}
use borrow.Author.Tests.{eqb-true, eqb-false}
use Rattle.symbols.specs.Names.{value_from}
use Rattle.symbols.proofs.Laws.{digit_range}
use Rattle.asking.proofs.Spelling.{digits_on, digits_off, digits_end, value_on, value_end, value_least, natural_none, natural_other, natural_large, natural_is_lem}
use Rattle.asking.proofs.numerals.natural_in.Goals as goal

pub loop-b-init : goal.loop-b-init
loop-b-init c = (omega arith, refl, refl)

pub returns-then-not-is_digit : goal.returns-then-not-is_digit
returns-then-not-is_digit c =
    let l = c.loop-b in
    sym (natural_other _ (l.invariant.1 ∙ digits_off _ l.b-index c.loop-b-test.true (sym c.is_digit.ensures ∙ c.if-not-is_digit.true)))

pub overflow_sub-b : goal.overflow_sub-b
overflow_sub-b c = (digit_range _ (sym c.is_digit.ensures ∙ c.if-not-is_digit.false)).0

pub returns-then-d-value : goal.returns-then-d-value
returns-then-d-value c =
    let s = c.args.text.now in
    let l = c.loop-b in
    let i = l.b-index in
    let d = digit_range _ (sym c.is_digit.ensures ∙ c.if-not-is_digit.false) in
    let e : value_from 0 s ≡ value_from (10 * l.value + (get_or s i 0 - 48)) (drop (i + 1) s) = l.invariant.2 ∙ value_on s i l.value c.loop-b-test.true in
    sym (natural_large s (omega (arith, e, c.from-d.ensures, value_least (10 * l.value + (get_or s i 0 - 48)) (drop (i + 1) s))))

pub loop-b-preserved : goal.loop-b-preserved
loop-b-preserved c =
    let s = c.args.text.now in
    let l = c.loop-b in
    let i = l.b-index in
    let e = sym c.is_digit.ensures ∙ c.if-not-is_digit.false in (
      omega arith,
      l.invariant.1 ∙ digits_on s i c.loop-b-test.true e,
      l.invariant.2 ∙ value_on s i l.value c.loop-b-test.true ∙ ap (λ d. value_from (10 * l.value + d) (drop (i + 1) s)) (sym c.from-d.ensures),
    )

pub returns-then-is_empty : goal.returns-then-is_empty
returns-then-is_empty c = sym (natural_none _ (eqb-true (length c.args.text.now) 0 (sym c.is_empty.ensures ∙ c.if-is_empty.true)))

pub returns-else-is_empty : goal.returns-else-is_empty
returns-else-is_empty c =
    let s = c.args.text.now in
    let l = c.loop-b in
    let n = eqb-false (length s) 0 (sym c.is_empty.ensures ∙ c.if-is_empty.false) in
    sym (natural_is_lem s l.value (omega (arith, n)) (l.invariant.1 ∙ digits_end s l.b-index c.loop-b-test.false) (l.invariant.2 ∙ value_end s l.b-index l.value c.loop-b-test.false) (omega arith))
