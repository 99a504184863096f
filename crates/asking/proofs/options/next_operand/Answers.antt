-- `asking::options::next_operand` meets its contract. What is passed is an option with its number, so the words from i on are the words.
-- Assumes nothing.
use mathlib.Core.Path.{refl, sym, ap, ◌∙◌}
use native.Mathlib.Omega.{arith}
use mathlib.Core.Bool.{false}
use Rattle.asking.specs.Words.{part}
use Rattle.asking.specs.Sorts.{asked_from}
use Rattle.asking.specs.Options.{operands_in}
use Rattle.asking.proofs.Choices.{option_long, operands_passed, operands_none, operands_first}
use Rattle.asking.proofs.options.next_operand.Goals as goal

pub loop-w-init : goal.loop-w-init
loop-w-init c = (refl, omega arith)

pub returns-then-not-is_option : goal.returns-then-not-is_option
returns-then-not-is_option c =
    let s = c.args.line.now in
    let i = c.loop-w.i in
    let w = c.next_word-w.result in
    let h = c.next_word-w.ensures in
    let e = sym c.is_option.ensures ∙ c.if-not-is_option.true in
    record {
      none = λ k. c.loop-w.invariant.0 ∙ operands_none s i w h k;
      end = h.end;
      first = λ k. c.loop-w.invariant.0 ∙ operands_first s i w h e k;
      onward = omega (arith, h.onward, c.loop-w.invariant.1);
      ordered = h.ordered;
      inside = h.inside;
    }

pub loop-w-smaller : goal.loop-w-smaller
loop-w-smaller c =
    let h = c.next_word-w.ensures in
    let b = c.behind-i.ensures in
    let e = sym c.is_option.ensures ∙ c.if-not-is_option.false in
    let l = option_long c.args.line.now c.loop-w.i c.next_word-w.result h e in
    omega (arith, h.onward, h.inside, b.onward, b.inside)

pub loop-w-preserved : goal.loop-w-preserved
loop-w-preserved c =
    let s = c.args.line.now in
    let i = c.loop-w.i in
    let w = c.next_word-w.result in
    let h = c.next_word-w.ensures in
    let b = c.behind-i.ensures in
    let e = sym c.is_option.ensures ∙ c.if-not-is_option.false in
    let l = option_long s i w h e in
    let n = ap (operands_in false) (h.first l) ∙ operands_passed (part s w.from w.to) (asked_from s w.to) (asked_from s c.behind-i.result) e b.words in
    (c.loop-w.invariant.0 ∙ n, omega (arith, c.loop-w.invariant.1, h.onward, h.ordered, b.onward, b.inside))
