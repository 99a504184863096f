-- `vectors::writes::answered` meets its contract. 2 of an accepted source is told apart first; any other answer is the listed one.
-- Assumes nothing.
use Rattle.std.proofs.Common.{Result}
use mathlib.Core.Path.{◌≡◌, ap}
use mathlib.Core.Bool.{Bool, true, false}
use mathlib.Core.List.{List}
use Prim.Native.Nat.{ℕ}
use lib.Dec.{eqb}
use borrow.Author.Tests.{eq-eqb, ne_eqb}
use Rattle.answers.specs.declared.Refusal.{Refusal}
use Rattle.clean.specs.Numbers.{number_of, place_of}
use Rattle.vectors.specs.declared.texts.Numeral.{Numeral}
use Rattle.vectors.specs.Listed.{number_at}
use Rattle.vectors.specs.Pages.{numbered, written_by}
use Rattle.vectors.proofs.writes.answered.Goals as goal
use Rattle.vectors.proofs.writes.answered.Goals.{else-answer-eq0-via-then-answer-eq0+else-answer-eq2, else-answer-eq0-via-else-answer-eq0}

module _ (w : Result ℕ Refusal) (text : List ℕ) (n : Numeral) (first : n ≡ number_at text 0) where
  is-long : (a p : ℕ) → a ≡ number_of w → p ≡ place_of w → n.value ≡ 0 → eqb a 2 ≡ true → eqb p 16384 ≡ written_by w text
  unfolding written_by
  is-long a p e f h k =
      let x : eqb (number_at text 0).value 0 ≡ true = eq-eqb (number_at text 0).value 0 (cc) in
      let y : eqb (number_of w) 2 ≡ true = rw e at k in
      rw (x, y) (ap (λ (q : ℕ). eqb q 16384) f)

  module _ (m : Numeral) (second : m ≡ number_at text n.next) (r : Bool) (is : r ≡ numbered w n.value m.value) where
    refused : (n.value ≡ 0 → ⊥) → r ≡ written_by w text
    unfolding written_by
    refused h =
        let x : eqb (number_at text 0).value 0 ≡ false = ne_eqb (number_at text 0).value 0 (λ e. h (cc)) in
        rw x (cc)

    not-long : n.value ≡ 0 → (a : ℕ) → a ≡ number_of w → eqb a 2 ≡ false → r ≡ written_by w text
    unfolding written_by
    not-long h a e k =
        let x : eqb (number_at text 0).value 0 ≡ true = eq-eqb (number_at text 0).value 0 (cc) in
        let y : eqb (number_of w) 2 ≡ false = rw e at k in
        rw (x, y) (cc)

pub returns-then-answer-eq2 : goal.returns-then-answer-eq2
returns-then-answer-eq2 c = is-long c.args.w c.args.text.now c.number_at-answer.result c.number_at-answer.ensures.value c.answer.result.number c.place.result c.answer.ensures c.place.ensures c.if-answer-eq0.true c.if-answer-eq2.true-raw

pub returns : goal.returns
returns c =
    let no = not-long c.args.w c.args.text.now c.number_at-answer.result c.number_at-answer.ensures.value c.number_at-place.result c.number_at-place.ensures.value c.is_answer.result c.is_answer.ensures in
    let wrong = refused c.args.w c.args.text.now c.number_at-answer.result c.number_at-answer.ensures.value c.number_at-place.result c.number_at-place.ensures.value c.is_answer.result c.is_answer.ensures in
    elim c.else-answer-eq0.branch [
      | else-answer-eq0-via-then-answer-eq0+else-answer-eq2 x ↦ no x.if-answer-eq0.true x.answer.result.number x.answer.ensures x.if-answer-eq2.false-raw
      | else-answer-eq0-via-else-answer-eq0 x ↦ wrong x.if-answer-eq0.false
    ]
