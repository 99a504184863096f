-- `checking::checking::agreeing` meets its contract. The invariant: so many words agree, and those that agree behind them count too. Assumes nothing.
use Prim.Native.Nat.{ℕ, ◌^◌, ◌<◌}
use mathlib.Core.Path.{◌≡◌, sym, ap, ◌∙◌}
use mathlib.Core.Bool.{true, false}
use mathlib.Core.List.{List}
use native.Mathlib.Numerals.{add-one}
use native.Mathlib.Omega.{arith}
use lib.IntN.{ℤ, pos}
use lib.ListN.{get_or, drop}
use lib.Signed.{mag}
use mir.Syntax.{w64}
use mir.Val.{to_z, of_z, hbits}
use mir.Facts.{to_z-of_z}
use Rattle.checking.specs.Checking.{is_word}
use Rattle.checking.proofs.RowLaws.{agreed_short, agreed_over, agreed_stop, agreed_on}
use Rattle.checking.proofs.checking.agreeing.Goals as goal

-- a number is handed over as its bits
sent : (l : List ℤ) (ws : List ℕ) (i : ℕ) → mag (get_or l i (pos 0)) < 2 ^ hbits w64 → is_word (get_or l i (pos 0)) (get_or ws i 0) ≡ is_word (to_z w64 (of_z w64 (get_or l i (pos 0)))) (get_or ws i 0)
sent l ws i h = ap (λ (z : ℤ). is_word z (get_or ws i 0)) (sym (to_z-of_z {w = w64} (record { sfits = h })))

pub loop-i-init : goal.loop-i-init
loop-i-init c = (omega arith, omega arith)

pub returns-then-list-i : goal.returns-then-list-i
returns-then-list-i c =
    let loop = c.loop-i in
    let args = c.args in
    omega (arith, agreed_short args.list.now (drop loop.i args.words.now) loop.i c.if-list-i.true)

pub returns-then-not-is_word : goal.returns-then-not-is_word
returns-then-not-is_word c =
    let loop = c.loop-i in
    let args = c.args in
    let f : is_word (get_or args.list.now loop.i (pos 0)) (get_or args.words.now loop.i 0) ≡ false =
    sent args.list.now args.words.now loop.i c.is_word-arg-1.given ∙ sym c.is_word.ensures ∙ c.if-not-is_word.true in
    omega (arith, agreed_stop args.list.now args.words.now loop.i c.if-list-i.false c.loop-i-test.true (pos 0) f)

pub loop-i-preserved : goal.loop-i-preserved
loop-i-preserved c =
    let loop = c.loop-i in
    let args = c.args in
    let f : is_word (get_or args.list.now loop.i (pos 0)) (get_or args.words.now loop.i 0) ≡ true =
    sent args.list.now args.words.now loop.i c.is_word-arg-1.given ∙ sym c.is_word.ensures ∙ c.if-not-is_word.false in
    let on = agreed_on args.list.now args.words.now loop.i c.if-list-i.false c.loop-i-test.true (pos 0) f in
    (rw add-one (omega (arith, on)), omega arith)

pub returns : goal.returns
returns c =
    let loop = c.loop-i in
    let args = c.args in
    omega (arith, agreed_over (drop loop.i args.list.now) args.words.now loop.i c.loop-i-test.false)
