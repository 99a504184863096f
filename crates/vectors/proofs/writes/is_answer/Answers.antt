-- `vectors::writes::is_answer` meets its contract. The number is compared, then the place.
-- Assumes nothing.
use Rattle.std.proofs.Common.{Result}
use mathlib.Core.Path.{◌≡◌, sym, ap, ◌∙◌}
use mathlib.Core.Bool.{true, false}
use Prim.Native.Nat.{ℕ}
use lib.Dec.{eqb}
use borrow.Author.Tests.{eq-eqb, ne_eqb}
use Rattle.answers.specs.declared.Refusal.{Refusal}
use Rattle.clean.specs.Numbers.{number_of, place_of}
use Rattle.vectors.specs.Pages.{numbered}
use Rattle.vectors.proofs.writes.is_answer.Goals as goal

module _ (w : Result ℕ Refusal) (a n m : ℕ) (number : a ≡ number_of w) where
  same_number : (p : ℕ) → a ≡ n → p ≡ place_of w → eqb p m ≡ numbered w n m
  same_number p h place =
      let k : eqb (number_of w) n ≡ true = eq-eqb (number_of w) n (sym number ∙ h) in
      rw k (ap (λ (q : ℕ). eqb q m) place)

  other-number : (a ≡ n → ⊥) → eqb a n ≡ numbered w n m
  other-number h =
      let k : eqb (number_of w) n ≡ false = ne_eqb (number_of w) n (λ e. h (number ∙ e)) in
      rw k (ne_eqb a n h)

pub returns-then-answer : goal.returns-then-answer
returns-then-answer c =
    let args = c.args in
    same_number args.w c.answer.result.number args.answer args.place c.answer.ensures c.place.result c.if-answer.true c.place.ensures

pub returns-else-answer : goal.returns-else-answer
returns-else-answer c =
    let args = c.args in
    other-number args.w c.answer.result.number args.answer args.place c.answer.ensures c.if-answer.false
