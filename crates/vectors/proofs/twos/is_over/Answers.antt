-- `vectors::twos::is_over` meets its contract.
-- Assumes nothing.
use mathlib.Core.Path.{◌≡◌, sym, ap, ◌∙◌}
use mathlib.Core.Bool.{false}
use Prim.Native.Nat.{ℕ}
use lib.Dec.{eqb}
use borrow.Author.Tests.{eq-eqb, ne_eqb}
use Rattle.answers.specs.Answers.{number_of}
use Rattle.answers.specs.declared.Verdict.{Verdict}
use Rattle.vectors.specs.Twos.{over_by}
use Rattle.vectors.proofs.twos.is_over.Goals as goal

module _ (v v' : Verdict) (n : ℕ) (first : n ≡ number_of v) where
  over_first : (m : ℕ) → m ≡ number_of v' → n ≡ 4 → eqb m 4 ≡ over_by v v'
  over_first m e h = rw (eq-eqb (number_of v) 4 (sym first ∙ h)) (ap (λ k. eqb k 4) e)

  not_first : (n ≡ 4 → ⊥) → false ≡ over_by v v'
  not_first h = rw (ne_eqb (number_of v) 4 (λ e. h (first ∙ e)))

pub returns-then-answer-eq4 : goal.returns-then-answer-eq4
returns-then-answer-eq4 c =
    let a = c.args in
    over_first a.a a.b c.answer.result.number c.answer.ensures c.answer-then-answer-eq4.result.number c.answer-then-answer-eq4.ensures c.if-answer-eq4.true

pub returns : goal.returns
returns c =
    let a = c.args in
    not_first a.a a.b c.answer.result.number c.answer.ensures c.if-answer-eq4.false
