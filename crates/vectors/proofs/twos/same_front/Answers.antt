-- `vectors::twos::same_front` meets its contract. The words from i on are those that are left to compare.
-- Assumes nothing.
use mathlib.Core.Path.{◌≡◌, sym, ap, ◌∙◌}
use mathlib.Core.Bool.{true, false}
use mathlib.Core.List.{List}
use Prim.Native.Nat.{ℕ, zero, suc, ◌+◌, ◌-◌, ◌≤◌, ◌<◌}
use native.Mathlib.Omega.{arith}
use lib.ListN.{get_or}
use borrow.Author.Tests.{eq-eqb, ne_eqb}
use Rattle.vectors.specs.Twos.{same_from}
use Rattle.vectors.proofs.twos.same_front.Goals as goal

module _ (a b : List ℕ) (from n : ℕ) where
  begun : same_from a b from 0 n ≡ same_from a b from 0 (n - 0)
  begun =
      let e : n ≡ n - 0 = omega arith in
      ap (same_from a b from 0) e

  module _ (i : ℕ) where
    left : i < n → n - i ≡ suc (n - (i + 1))
    left h = omega arith

    same-on : i < n → get_or a i 0 ≡ get_or b (from + i) 0 → same_from a b from i (n - i) ≡ same_from a b from (i + 1) (n - (i + 1))
    unfolding same_from
    same-on h e = rw (left h, eq-eqb (get_or a i 0) (get_or b (from + i) 0) e)

    same-off : i < n → (get_or a i 0 ≡ get_or b (from + i) 0 → ⊥) → same_from a b from i (n - i) ≡ false
    unfolding same_from
    same-off h e = rw (left h, ne_eqb (get_or a i 0) (get_or b (from + i) 0) e)

    same_end : n ≤ i → same_from a b from i (n - i) ≡ true
    unfolding same_from
    same_end h =
        let z : n - i ≡ zero = omega arith in
        rw z

pub loop-i-init : goal.loop-i-init
loop-i-init c =
    let a = c.args in
    begun a.a.now a.b.now a.from a.n

pub returns-then-word_at : goal.returns-then-word_at
returns-then-word_at c =
    let a = c.args in
    let l = c.loop-i in
    sym (l.invariant ∙ same-off a.a.now a.b.now a.from a.n l.i c.loop-i-test.true (λ e. c.if-word_at.true (c.word_at.ensures ∙ e ∙ sym c.word_at-in-loop-i.ensures)))

pub loop-i-preserved : goal.loop-i-preserved
loop-i-preserved c =
    let a = c.args in
    let l = c.loop-i in
    l.invariant ∙ same-on a.a.now a.b.now a.from a.n l.i c.loop-i-test.true (sym c.word_at.ensures ∙ c.if-word_at.false ∙ c.word_at-in-loop-i.ensures)

pub returns : goal.returns
returns c =
    let a = c.args in
    let l = c.loop-i in
    sym (l.invariant ∙ same_end a.a.now a.b.now a.from a.n l.i c.loop-i-test.false)
