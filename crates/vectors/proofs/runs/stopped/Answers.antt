-- `vectors::runs::stopped` meets its contract. Two checks, and then what was written.
-- Assumes nothing.
use mathlib.Core.Path.{◌≡◌, ◌∙◌}
use mathlib.Core.Bool.{Bool, ◌||◌}
use mathlib.Core.List.{List}
use Prim.Native.Nat.{ℕ}
use lib.Dec.{eqb}
use lib.IntN.{ℤ}
use Rattle.machine.specs.declared.Ran.{Ran}
use Rattle.vectors.specs.declared.texts.Numeral.{Numeral}
use Rattle.vectors.specs.declared.tally.Tally.{Tally}
use Rattle.vectors.specs.Listed.{number_at, checked}
use Rattle.vectors.specs.Ended.{stopped_by, after_written, after_taken, after_place, after_stop}
use Rattle.vectors.proofs.Laws.{or_yes, or_no, same_stop, other_stop}
use Rattle.vectors.proofs.runs.stopped.Goals as goal
use Rattle.vectors.proofs.runs.stopped.Goals.{then-answer, else-answer, then-taken, else-taken}

in-turn : (r : Ran) (output : List ℤ) (text : List ℕ) (from : ℕ) (t s k u : Tally) (n m q : Numeral) (a b : Bool)
    → n ≡ number_at text from
    → m ≡ number_at text n.next
    → q ≡ number_at text m.next
    → a ≡ stopped_by r.stop n.value m.value
    → s ≡ checked a t
    → b ≡ (q.minus || eqb r.taken q.value)
    → k ≡ checked b s
    → u ≡ after_written r output text (number_at text q.next) k
    → u ≡ after_stop r output text from t
unfolding after_stop after_place after_taken
in-turn r output text from t s k u n m q a b e1 e2 e3 e4 e5 e6 e7 e8 = cc

pub returns : goal.returns
returns c =
    let a = c.args in
    let n = c.number_at-answer.result in
    let m = c.number_at-place.result in
    let q = c.number_at-taken.result in
    in-turn a.r a.output.now a.text.now a.from a.t c.check-told.result c.check-took.result c.written.result n m q c.if-answer.check c.if-taken.check
    c.number_at-answer.ensures.value c.number_at-place.ensures.value c.number_at-taken.ensures.value
    (elim c.if-answer.branch [
      | then-answer w ↦ w.check-is ∙ same_stop a.r.stop c.answer.result.number n.value m.value c.answer.ensures w.place.result w.place.ensures w.if-answer.true
      | else-answer w ↦ w.check-is ∙ other_stop a.r.stop c.answer.result.number n.value m.value c.answer.ensures w.if-answer.false
    ])
    c.check-told.ensures
    (elim c.if-taken.branch [
      | then-taken w ↦ w.check-is ∙ or_yes q.minus (eqb a.r.taken q.value) w.if-taken.true
      | else-taken w ↦ w.check-is ∙ or_no q.minus (eqb a.r.taken q.value) w.if-taken.false
    ])
    c.check-took.ensures c.written.ensures
