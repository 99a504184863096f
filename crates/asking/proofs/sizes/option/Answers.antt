-- `asking::sizes::option` meets its contract. Each word that is passed is another, so the option from `at` on is the option.
-- Assumes nothing.
use mathlib.Core.Path.{refl, sym, ◌∙◌}
use native.Mathlib.Omega.{arith}
use Rattle.asking.proofs.Choices.{option_none, option_here, option_later, option_nothing}
use Rattle.asking.proofs.sizes.option.Goals as goal

pub loop-at-init : goal.loop-at-init
loop-at-init c = refl

pub returns-then-a-b : goal.returns-then-a-b
returns-then-a-b c =
    let args = c.args in
    sym (c.loop-at.invariant ∙ option_none args.line.now c.loop-at.at c.next_word-w.result c.next_word-w.ensures args.name.now args.usual c.if-a-b.true)

pub returns-then-is_word : goal.returns-then-is_word
returns-then-is_word c =
    let h = c.next_word-w.ensures in
    let n = c.if-a-b.false in
    let e = sym c.is_word.ensures ∙ c.if-is_word.true in
    c.number_from.ensures ∙ sym (c.loop-at.invariant ∙ option_here c.args.line.now c.loop-at.at c.next_word-w.result h c.args.name.now c.args.usual (omega (arith, h.ordered)) e)

pub loop-at-smaller : goal.loop-at-smaller
loop-at-smaller c =
    let h = c.next_word-w.ensures in
    let n = c.if-a-b.false in
    omega (arith, h.onward, h.ordered, h.inside, c.loop-at-test.true)

pub loop-at-preserved : goal.loop-at-preserved
loop-at-preserved c =
    let h = c.next_word-w.ensures in
    let n = c.if-a-b.false in
    let e = sym c.is_word.ensures ∙ c.if-is_word.false in
    c.loop-at.invariant ∙ option_later c.args.line.now c.loop-at.at c.next_word-w.result h c.args.name.now c.args.usual (omega (arith, h.ordered)) e

pub returns : goal.returns
returns c =
    let args = c.args in
    sym (c.loop-at.invariant ∙ option_nothing args.line.now c.loop-at.at args.name.now args.usual c.loop-at-test.false)
