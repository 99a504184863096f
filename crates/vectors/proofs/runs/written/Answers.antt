-- `vectors::runs::written` meets its contract. Two checks and the count of the instructions, one after the other.
-- Assumes nothing.
use mathlib.Core.Path.{◌≡◌, ◌∙◌}
use mathlib.Core.Bool.{Bool, ◌&&◌}
use mathlib.Core.List.{List}
use Prim.Native.Nat.{ℕ}
use lib.Dec.{eqb}
use lib.IntN.{ℤ, pos}
use lib.ListN.{drop}
use Rattle.machine.specs.declared.Ran.{Ran}
use Rattle.vectors.specs.declared.texts.Numeral.{Numeral}
use Rattle.vectors.specs.declared.tally.Tally.{Tally}
use Rattle.vectors.specs.Listed.{number_at, checked}
use Rattle.vectors.specs.Ended.{numbers, after, begins, all_are, after_steps, after_written}
use Rattle.vectors.proofs.Laws.{and_yes, and_no}
use Rattle.vectors.proofs.runs.written.Goals as goal
use Rattle.vectors.proofs.runs.written.Goals.{then-outputs, else-outputs}

in-turn : (r : Ran) (output : List ℤ) (text : List ℕ) (from : ℕ) (t s k u : Tally) (n m : Numeral) (o b a : Bool) (next : ℕ)
    → n ≡ number_at text from
    → o ≡ begins (numbers text n.value n.next) output
    → next ≡ after text n.value n.next
    → b ≡ (o && eqb r.written n.value)
    → s ≡ checked b t
    → a ≡ all_are (pos 9) (drop r.written output)
    → k ≡ checked a s
    → m ≡ number_at text next
    → u ≡ after_steps r.done m k
    → u ≡ after_written r output text (number_at text from) t
unfolding after_written
in-turn r output text from t s k u n m o b a next e1 e2 e3 e4 e5 e6 e7 e8 e9 = cc

pub returns : goal.returns
returns c =
    let a = c.args in
    let n = c.number_at-count.result in
    let o = c.same_outputs-outputs.result in
    in-turn a.r a.output.now a.text.now a.from a.t c.check-told.result c.check-kept.result c.counted.result n c.number_at.result o.same c.if-outputs.check c.untouched.result o.next
    c.number_at-count.ensures.value c.same_outputs-outputs.ensures.same_value c.same_outputs-outputs.ensures.next_value
    (elim c.if-outputs.branch [
      | then-outputs w ↦ w.check-is ∙ and_yes o.same (eqb a.r.written n.value) w.if-outputs.true
      | else-outputs w ↦ w.check-is ∙ and_no o.same (eqb a.r.written n.value) w.if-outputs.false
    ])
    c.check-told.ensures c.untouched.ensures c.check-kept.ensures c.number_at.ensures.value c.counted.ensures
