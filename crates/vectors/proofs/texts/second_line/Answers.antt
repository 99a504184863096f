-- `vectors::texts::second_line` meets its contract. The bytes passed, and the place in the others, are the place in all of them.
-- Assumes nothing.
use mathlib.Core.Path.{◌≡◌}
use mathlib.Core.List.{List}
use Prim.Native.Nat.{ℕ, ◌+◌, ◌≤◌, ◌<◌}
use native.Mathlib.Omega.{arith}
use lib.ListN.{length, get_or, drop, drop_of_length-le}
use borrow.Author.Tests.{eq-eqb, ne_eqb}
use Rattle.symbols.proofs.Laws.{peel}
use Rattle.vectors.specs.Listed.{second_line}
use borrow.Author.Rules.{rules}
use Rattle.vectors.proofs.texts.second_line.Goals as goal

module _ (s : List ℕ) (i : ℕ) where
  line_on : i < length s → (get_or s i 0 ≡ 10 → ⊥) → second_line (drop i s) ≡ second_line (drop (i + 1) s) + 1
  unfolding second_line
  line_on h e = rw (peel s i h, ne_eqb (get_or s i 0) 10 e)

  line-stop : i < length s → get_or s i 0 ≡ 10 → second_line (drop i s) ≡ 1
  unfolding second_line
  line-stop h e = rw (peel s i h, eq-eqb (get_or s i 0) 10 e)

  line-end : length s ≤ i → second_line (drop i s) ≡ 0
  unfolding second_line
  line-end h = rw (drop_of_length-le s h)

pub loop-i-init : goal.loop-i-init
loop-i-init c = (search rules, omega arith)

pub returns-then-text-i-eq10 : goal.returns-then-text-i-eq10
returns-then-text-i-eq10 c =
    let s = c.args.text.now in
    let l = c.loop-i in
    omega (arith, l.invariant.1, line-stop s l.i c.loop-i-test.true c.if-text-i-eq10.true)

pub loop-i-preserved : goal.loop-i-preserved
loop-i-preserved c =
    let s = c.args.text.now in
    let l = c.loop-i in
    (search rules, omega (arith, l.invariant.1, line_on s l.i c.loop-i-test.true c.if-text-i-eq10.false))

pub returns : goal.returns
returns c =
    let s = c.args.text.now in
    let l = c.loop-i in
    omega (arith, l.invariant.1, line-end s l.i c.loop-i-test.false)
