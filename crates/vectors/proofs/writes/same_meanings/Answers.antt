-- `vectors::writes::same_meanings` meets its contract. The uses from k on are those that are left to compare.
-- Assumes nothing.
use mathlib.Core.Path.{◌≡◌, sym, ◌∙◌}
use mathlib.Core.Bool.{true, false}
use mathlib.Core.List.{List}
use Prim.Native.Nat.{ℕ, zero, suc, ◌+◌, ◌-◌, ◌*◌, ◌≤◌, ◌<◌}
use native.Mathlib.Omega.{arith}
use lib.Dec.{eqb}
use lib.ListN.{get_or}
use borrow.Author.Tests.{eq-eqb, ne_eqb}
use Rattle.vectors.specs.Pages.{alike_at, alike_from, same_meanings}
use Rattle.vectors.proofs.writes.same_meanings.Goals as goal

module _ (a b : List ℕ) (count : ℕ) where
  module _ (other : ℕ) (first : count ≡ get_or a 0 0) (second : other ≡ get_or b 0 0) where
    other-count : (count ≡ other → ⊥) → false ≡ same_meanings a b
    unfolding same_meanings
    other-count h =
        let e : eqb (get_or a 0 0) (get_or b 0 0) ≡ false = ne_eqb (get_or a 0 0) (get_or b 0 0) (λ q. h (first ∙ q ∙ sym second)) in
        rw e

    same_count : count ≡ other → same_meanings a b ≡ alike_from a b 0 count
    unfolding same_meanings
    same_count h =
        let e : eqb (get_or a 0 0) (get_or b 0 0) ≡ true = eq-eqb (get_or a 0 0) (get_or b 0 0) (sym first ∙ h ∙ second) in
        rw (e, first)

  start : alike_from a b 0 count ≡ alike_from a b 0 (count - 0)
  start = let f : count - 0 ≡ count = omega arith in rw f

  module _ (k : ℕ) where
    on : k < count → alike_at a b (3 * k + 1) ≡ true → alike_from a b k (count - k) ≡ alike_from a b (k + 1) (count - (k + 1))
    unfolding alike_from
    on h e =
        let l : count - k ≡ suc (count - (k + 1)) = omega arith in
        rw (l, e)

    off : k < count → alike_at a b (3 * k + 1) ≡ false → alike_from a b k (count - k) ≡ false
    unfolding alike_from
    off h e =
        let l : count - k ≡ suc (count - (k + 1)) = omega arith in
        rw (l, e)

    end : count ≤ k → alike_from a b k (count - k) ≡ true
    unfolding alike_from
    end h =
        let z : count - k ≡ zero = omega arith in
        rw z

pub returns-then-count-word : goal.returns-then-count-word
returns-then-count-word c = other-count c.args.a.now c.args.b.now c.word-count.result c.word.result c.word-count.ensures.value c.word.ensures.value c.if-count-word.true

pub loop-k-init : goal.loop-k-init
loop-k-init c = start c.args.a.now c.args.b.now c.word-count.result

pub overflow_mul-k : goal.overflow_mul-k
overflow_mul-k c = omega (arith, c.word-count.ensures.upper_bound, c.loop-k-test.true)

pub overflow_add-k : goal.overflow_add-k
overflow_add-k c = omega (arith, c.word-count.ensures.upper_bound, c.loop-k-test.true)

pub alike_at-requires : goal.alike_at-requires
alike_at-requires c = omega (arith, c.word-count.ensures.upper_bound, c.loop-k-test.true)

pub returns-then-not-alike_at : goal.returns-then-not-alike_at
returns-then-not-alike_at c =
    let a = c.args in
    sym (same_count a.a.now a.b.now c.word-count.result c.word.result c.word-count.ensures.value c.word.ensures.value c.if-count-word.false ∙ c.loop-k.invariant ∙ off a.a.now a.b.now c.word-count.result c.loop-k.k c.loop-k-test.true (sym c.alike_at.ensures ∙ c.if-not-alike_at.true))

pub loop-k-preserved : goal.loop-k-preserved
loop-k-preserved c = c.loop-k.invariant ∙ on c.args.a.now c.args.b.now c.word-count.result c.loop-k.k c.loop-k-test.true (sym c.alike_at.ensures ∙ c.if-not-alike_at.false)

pub returns : goal.returns
returns c =
    let a = c.args in
    sym (same_count a.a.now a.b.now c.word-count.result c.word.result c.word-count.ensures.value c.word.ensures.value c.if-count-word.false ∙ c.loop-k.invariant ∙ end a.a.now a.b.now c.word-count.result c.loop-k.k c.loop-k-test.false)
