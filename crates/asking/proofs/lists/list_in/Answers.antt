-- `asking::lists::list_in` meets its contract. The invariant, `Put`: so many words are taken, and the rest begins at `at`.
-- Assumes nothing.
use mathlib.Core.Path.{refl, sym, ◌∙◌}
use native.Mathlib.Omega.{arith}
use lib.ListN.{length-set}
use mir.Syntax.{w64}
use mir.Facts.{to_z-of_z}
use borrow.Author.Rules.{rules}
use Rattle.asking.proofs.Lines.{word_none, word_first}
use Rattle.asking.proofs.Sending.{put_nothing, put_all, put_stop, put_full, put_more, no_words}
use Rattle.asking.proofs.lists.list_in.Goals as goal

pub loop-at-init : goal.loop-at-init
loop-at-init c = (refl, put_nothing c.args.line.now c.args.list.now)

pub returns-then-a-b : goal.returns-then-a-b
returns-then-a-b c =
    let a = c.args in
    let l = c.loop-at in
    put_all a.line.now a.list.now l.list l.at l.n l.invariant.1 (word_none a.line.now l.at c.word_from-w.result c.word_from-w.ensures c.if-a-b.true)

pub returns-in_default : goal.returns-in_default
returns-in_default c =
    let a = c.args in
    let l = c.loop-at in
    let h = c.word_from-w.ensures in
    let n = c.if-a-b.false in
    let f = word_first a.line.now l.at c.word_from-w.result h (omega (arith, h.ordered)) in
    put_stop a.line.now a.list.now l.list l.at l.n l.invariant.1 _ _ f (sym c.in_default.is ∙ c.sent_in.ensures)

pub returns-then-list-n : goal.returns-then-list-n
returns-then-list-n c =
    let a = c.args in
    let l = c.loop-at in
    let h = c.word_from-w.ensures in
    let n = c.if-a-b.false in
    let f = word_first a.line.now l.at c.word_from-w.result h (omega (arith, h.ordered)) in
    put_full a.line.now a.list.now l.list l.at l.n l.invariant.1 _ _ f _ (sym c.in-Some.is ∙ c.sent_in.ensures) (omega (arith, c.if-list-n.true, l.invariant.0))

pub loop-at-smaller : goal.loop-at-smaller
loop-at-smaller c =
    let h = c.word_from-w.ensures in
    let n = c.if-a-b.false in
    omega (arith, h.onward, h.ordered, h.inside)

pub loop-at-preserved : goal.loop-at-preserved
loop-at-preserved c =
    let a = c.args in
    let l = c.loop-at in
    let h = c.word_from-w.ensures in
    let n = c.if-a-b.false in
    let f = word_first a.line.now l.at c.word_from-w.result h (omega (arith, h.ordered)) in (
      simp length-set l.invariant.0,
      rw (to_z-of_z {w = w64} {z = c.in-Some.x} (search rules)) (put_more a.line.now a.list.now l.list l.at l.n l.invariant.1 _ _ f _ (sym c.in-Some.is ∙ c.sent_in.ensures) (omega (arith, c.if-list-n.false, l.invariant.0)) c.word_from-w.result.to refl),
    )

pub returns : goal.returns
returns c =
    let a = c.args in
    let l = c.loop-at in
    put_all a.line.now a.list.now l.list l.at l.n l.invariant.1 (no_words a.line.now l.at c.loop-at-test.false)
