-- `vectors::reads::answered` meets its contract. The first number is compared, then the second.
-- Assumes nothing.
use mathlib.Core.Path.{◌≡◌}
use mathlib.Core.Bool.{true, false}
use mathlib.Core.List.{List}
use Prim.Native.Nat.{ℕ}
use lib.Dec.{eqb}
use borrow.Author.Tests.{eq-eqb, ne_eqb}
use Rattle.answers.specs.Answers.{number_of, place_of}
use Rattle.answers.specs.declared.Verdict.{Verdict}
use Rattle.vectors.specs.declared.texts.Numeral.{Numeral}
use Rattle.vectors.specs.Listed.{number_at, answered_by}
use Rattle.vectors.proofs.reads.answered.Goals as goal

module _ (v : Verdict) (text : List ℕ) (a : ℕ) (n : Numeral) (answer : a ≡ number_of v) (first : n ≡ number_at text 0) where
  same_answer : (p : ℕ) (m : Numeral) → a ≡ n.value → p ≡ place_of v → m ≡ number_at text n.next → eqb p m.value ≡ answered_by v text
  same_answer p m h place second =
      let k : eqb (number_of v) (number_at text 0).value ≡ true = eq-eqb (number_of v) (number_at text 0).value (cc) in
      rw k (cc)

  other-answer : (a ≡ n.value → ⊥) → eqb a n.value ≡ answered_by v text
  other-answer h =
      let k : eqb (number_of v) (number_at text 0).value ≡ false = ne_eqb (number_of v) (number_at text 0).value (λ e. h (cc)) in
      rw k (ne_eqb a n.value h)

pub returns-then-answer : goal.returns-then-answer
returns-then-answer c =
    let a = c.args in
    same_answer a.verdict a.text.now c.answer.result.number c.number_at-answer.result c.answer.ensures c.number_at-answer.ensures.value
    c.place.result c.number_at-place.result c.if-answer.true c.place.ensures c.number_at-place.ensures.value

pub returns-else-answer : goal.returns-else-answer
returns-else-answer c =
    let a = c.args in
    other-answer a.verdict a.text.now c.answer.result.number c.number_at-answer.result c.answer.ensures c.number_at-answer.ensures.value c.if-answer.false
