-- `symbols::lexemes::word` meets its contract. The bytes between the apostrophes are those before the next one.
-- Assumes nothing.
use mathlib.Core.Path.{◌≡◌, sym, ap, ◌∙◌}
use Prim.Native.Nat.{ℕ, ◌+◌, ◌-◌, ◌≤◌, ◌<◌}
use native.Mathlib.Omega.{arith}
use borrow.Author.Tests.{lt-ltb, le-ltb}
use lib.ListN.{length, take, drop}
use lib.ListN.{length-drop}
use Rattle.symbols.specs.Symbols.{words}
use Rattle.symbols.specs.Scan.{before, closed, spelled, named, word}
use Rattle.symbols.proofs.Laws.{before_take}
use Rattle.symbols.proofs.lexemes.word.Goals as goal

pub returns-then-source-end : goal.returns-then-source-end
unfolding word closed
returns-then-source-end c =
    let s = c.args.source.now in
    let bs = drop (c.args.at + 1) s in
    let e = c.find-end.ensures in
    let n = length-drop (c.args.at + 1) s in
    let h : length bs ≤ length (before 39 bs) = omega (arith, c.if-source-end.true) in
    simp (le-ltb _ _ h)

pub returns-in-Some : goal.returns-in-Some
unfolding word closed named
returns-in-Some c =
    let s = c.args.source.now in
    let bs = drop (c.args.at + 1) s in
    let e = c.find-end.ensures in
    let n = length-drop (c.args.at + 1) s in
    let h : length (before 39 bs) < length bs = omega (arith, c.if-source-end.false) in
    let m : c.find-end.result - (c.args.at + 1) ≡ length (before 39 bs) = omega arith in
    let k : c.find-end.result - c.args.at ≡ length (before 39 bs) + 1 = omega arith in
    let q : spelled words (before 39 bs) ≡ _ = ap (spelled words) (sym (before_take 39 bs) ∙ ap (λ (i : ℕ). take i bs) (sym m)) ∙ sym c.spelled_word.ensures ∙ c.in-Some.is in
    rw k (simp (lt-ltb _ _ h, q))

pub returns-in-None : goal.returns-in-None
unfolding word closed named
returns-in-None c =
    let s = c.args.source.now in
    let bs = drop (c.args.at + 1) s in
    let e = c.find-end.ensures in
    let n = length-drop (c.args.at + 1) s in
    let h : length (before 39 bs) < length bs = omega (arith, c.if-source-end.false) in
    let m : c.find-end.result - (c.args.at + 1) ≡ length (before 39 bs) = omega arith in
    let q : spelled words (before 39 bs) ≡ _ = ap (spelled words) (sym (before_take 39 bs) ∙ ap (λ (i : ℕ). take i bs) (sym m)) ∙ sym c.spelled_word.ensures ∙ c.in-None.is in
    simp (lt-ltb _ _ h, q)
