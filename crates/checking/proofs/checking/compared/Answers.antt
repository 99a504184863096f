-- `checking::checking::compared` meets its contract. The invariant, `Left`: what is left of the list is to be compared with the rows that are left.
-- Assumes nothing.
use Prim.Native.Nat.{ℕ, ◌+◌, ◌*◌, ◌-◌}
use mathlib.Core.Path.{◌≡◌, sym, ap, subst, ◌∙◌}
use native.Mathlib.Nat.{suc-mul}
use native.Mathlib.Numerals.{add-one}
use native.Mathlib.Omega.{arith}
use lib.ListN.{get_or, take, drop, length-drop}
use lib.Seq.{length-take-le}
use Rattle.checking.proofs.RowLaws.{agreed_list, lent, Left, count_wrong, count_right, row_fails, row_passes, over_long, all_right}
use Rattle.checking.proofs.checking.compared.Goals as goal

pub slice_bounds-agreeing-end : goal.slice_bounds-agreeing-end
slice_bounds-agreeing-end c = sym (length-take-le 1 c.args.table.now (omega arith))

pub returns-then-agreeing-eq0 : goal.returns-then-agreeing-eq0
returns-then-agreeing-eq0 c =
    let args = c.args in
    count_wrong args.list.now args.table.now args.wide args.width (omega (arith, c.requires.1)) (sym c.agreeing.ensures ∙ c.if-agreeing-eq0.true)

-- a row further
next_from : (i wide : ℕ) → 1 + i * wide + wide ≡ 1 + (i + 1) * wide
next_from i wide = omega (arith, suc-mul i wide, ap (λ (n : ℕ). n * wide) (add-one i))

pub loop-i-init : goal.loop-i-init
loop-i-init c =
    let args = c.args in
    let pre = c.requires in
    let r = c.word-rows.ensures.value in
    let z : c.word-rows.result - 0 ≡ c.word-rows.result = omega arith in
    let y : 1 + 0 * args.wide ≡ 1 = omega arith in
    subst (λ n. Left args.list.now args.table.now args.wide args.width n 1 (1 + 0 * args.wide)) (sym (z ∙ r))
    (subst (λ f. Left args.list.now args.table.now args.wide args.width (get_or args.table.now 0 0) 1 f) (sym y)
    (count_right args.list.now args.table.now args.wide args.width pre.1 (λ e. c.if-agreeing-eq0.false (c.agreeing.ensures ∙ e))))

pub overflow_add-at : goal.overflow_add-at
overflow_add-at c =
    let loop = c.loop-i in
    let args = c.args in
    omega (arith, loop.invariant.inside, c.agreeing-n.ensures, lent args.list.now args.table.now loop.at (1 + loop.i * args.wide) args.width, agreed_list (drop loop.at args.list.now) (take args.width (drop (1 + loop.i * args.wide) args.table.now)), length-drop loop.at args.list.now)

pub returns-then-n-width : goal.returns-then-n-width
returns-then-n-width c =
    let loop = c.loop-i in
    let args = c.args in
    row_fails args.list.now args.table.now args.wide args.width loop.invariant (omega arith) c.requires.0 c.agreeing-n.result
    (c.agreeing-n.ensures ∙ lent args.list.now args.table.now loop.at (1 + loop.i * args.wide) args.width) c.if-n-width.true

pub loop-i-preserved : goal.loop-i-preserved
loop-i-preserved c =
    let loop = c.loop-i in
    let args = c.args in
    let n : c.word-rows.result - loop.i - 1 ≡ c.word-rows.result - (loop.i + 1) = omega arith in
    subst (λ k. Left args.list.now args.table.now args.wide args.width k (loop.at + c.agreeing-n.result) (1 + (loop.i + 1) * args.wide)) n
    (subst (λ f. Left args.list.now args.table.now args.wide args.width (c.word-rows.result - loop.i - 1) (loop.at + c.agreeing-n.result) f) (next_from loop.i args.wide)
    (row_passes args.list.now args.table.now args.wide args.width loop.invariant (omega arith) c.requires.0 c.agreeing-n.result
    (c.agreeing-n.ensures ∙ lent args.list.now args.table.now loop.at (1 + loop.i * args.wide) args.width) c.if-n-width.false))

pub returns-then-at-list : goal.returns-then-at-list
returns-then-at-list c =
    let args = c.args in
    over_long args.list.now args.table.now args.wide args.width c.loop-i.invariant (omega arith) c.if-at-list.true

pub returns : goal.returns
returns c =
    let args = c.args in
    all_right args.list.now args.table.now args.wide args.width c.loop-i.invariant (omega arith) c.if-at-list.false
