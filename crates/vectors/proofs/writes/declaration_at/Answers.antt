-- `vectors::writes::declaration_at` meets its contract. The rows from j on are those that are left to look at.
-- Assumes nothing.
use mathlib.Core.Path.{◌≡◌, sym, ap, ◌∙◌}
use mathlib.Core.List.{List}
use Prim.Native.Nat.{ℕ, zero, suc, ◌+◌, ◌-◌, ◌*◌, ◌≤◌, ◌<◌}
use native.Mathlib.Omega.{arith}
use lib.ListN.{get_or}
use borrow.Author.Tests.{eq-eqb, ne_eqb}
use Rattle.table.specs.Sections.{rows_at}
use Rattle.vectors.specs.Pages.{number_from, declaration_at}
use Rattle.vectors.proofs.writes.declaration_at.Goals as goal

module _ (table : List ℕ) (p at count : ℕ) where
  whole : at ≡ rows_at table → count ≡ get_or table at 0 → declaration_at table p ≡ number_from table p (at + 1) count
  unfolding declaration_at
  whole e f = cc

  start : number_from table p (at + 1) count ≡ 0 + number_from table p (at + 1 + 4 * 0) (count - 0)
  start =
      let e : at + 1 + 4 * 0 ≡ at + 1 = omega arith in
      let f : count - 0 ≡ count = omega arith in
      omega (arith, ap (λ (x : ℕ). number_from table p x (count - 0)) e, ap (λ (n : ℕ). number_from table p (at + 1) n) f)

  module _ (j : ℕ) where
    here : j < count → get_or table (at + 1 + 4 * j) 0 ≡ p → number_from table p (at + 1 + 4 * j) (count - j) ≡ 0
    unfolding number_from
    here h e =
        let l : count - j ≡ suc (count - (j + 1)) = omega arith in
        rw (l, eq-eqb (get_or table (at + 1 + 4 * j) 0) p e)

    on : j < count → (get_or table (at + 1 + 4 * j) 0 ≡ p → ⊥) → number_from table p (at + 1 + 4 * j) (count - j) ≡ suc (number_from table p (at + 1 + 4 * (j + 1)) (count - (j + 1)))
    unfolding number_from
    on h e =
        let l : count - j ≡ suc (count - (j + 1)) = omega arith in
        let q : at + 1 + 4 * (j + 1) ≡ at + 1 + 4 * j + 4 = omega arith in
        rw (l, ne_eqb (get_or table (at + 1 + 4 * j) 0) p e, q)

    end : count ≤ j → number_from table p (at + 1 + 4 * j) (count - j) ≡ 0
    unfolding number_from
    end h =
        let z : count - j ≡ zero = omega arith in
        rw z

pub loop-j-init : goal.loop-j-init
loop-j-init c = start c.args.table.now c.args.place c.sections_of-at.result.declarations c.word-count.result

pub returns-then-word-place : goal.returns-then-word-place
returns-then-word-place c =
    let a = c.args in
    let at = c.sections_of-at.result.declarations in
    let n = c.word-count.result in
    let l = c.loop-j in
    omega (arith, l.invariant, whole a.table.now a.place at n c.sections_of-at.ensures.declarations c.word-count.ensures.value, here a.table.now a.place at n l.j c.loop-j-test.true (sym c.word.ensures.value ∙ c.if-word-place.true))

pub loop-j-preserved : goal.loop-j-preserved
loop-j-preserved c =
    let a = c.args in
    let l = c.loop-j in
    omega (arith, l.invariant, on a.table.now a.place c.sections_of-at.result.declarations c.word-count.result l.j c.loop-j-test.true (λ e. c.if-word-place.false (c.word.ensures.value ∙ e)))

pub returns : goal.returns
returns c =
    let a = c.args in
    let at = c.sections_of-at.result.declarations in
    let n = c.word-count.result in
    let l = c.loop-j in
    omega (arith, l.invariant, whole a.table.now a.place at n c.sections_of-at.ensures.declarations c.word-count.ensures.value, end a.table.now a.place at n l.j c.loop-j-test.false)
