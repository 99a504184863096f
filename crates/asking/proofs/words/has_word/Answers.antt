-- `asking::words::has_word` meets its contract. Whether the words from `at` on have the text is whether all have it.
-- Assumes nothing.
use mathlib.Core.Path.{refl, sym, ◌∙◌}
use native.Mathlib.Omega.{arith}
use Rattle.asking.proofs.Lines.{has_none_lem, has_here, has_later, has_nothing}
use Rattle.asking.proofs.words.has_word.Goals as goal

pub loop-at-init : goal.loop-at-init
loop-at-init c = refl

pub returns-then-a-b : goal.returns-then-a-b
returns-then-a-b c = sym (c.loop-at.invariant ∙ has_none_lem c.args.line.now c.loop-at.at c.word_from-w.result c.word_from-w.ensures c.args.text.now c.if-a-b.true)

pub returns-then-is_word : goal.returns-then-is_word
returns-then-is_word c =
    let w = c.word_from-w.ensures in
    let n = c.if-a-b.false in
    let e = sym c.is_word.ensures ∙ c.if-is_word.true in
    sym (c.loop-at.invariant ∙ has_here c.args.line.now c.loop-at.at c.word_from-w.result w c.args.text.now (omega arith) e)

pub loop-at-smaller : goal.loop-at-smaller
loop-at-smaller c =
    let w = c.word_from-w.ensures in
    let n = c.if-a-b.false in
    omega arith

pub loop-at-preserved : goal.loop-at-preserved
loop-at-preserved c =
    let w = c.word_from-w.ensures in
    let n = c.if-a-b.false in
    let e = sym c.is_word.ensures ∙ c.if-is_word.false in
    c.loop-at.invariant ∙ has_later c.args.line.now c.loop-at.at c.word_from-w.result w c.args.text.now (omega arith) e

pub returns : goal.returns
returns c = sym (c.loop-at.invariant ∙ has_nothing c.args.line.now c.args.text.now c.loop-at.at c.loop-at-test.false)
