-- `vectors::runs::refused` meets its contract. Two checks, of the words and of the two runs.
-- Assumes nothing.
use mathlib.Core.Path.{◌≡◌, sym, ◌∙◌}
use mathlib.Core.Bool.{Bool, ◌&&◌}
use mathlib.Core.List.{List}
use Prim.Native.Nat.{ℕ}
use Rattle.vectors.specs.declared.tally.Tally.{Tally}
use Rattle.vectors.specs.Listed.{checked}
use Rattle.vectors.specs.Ended.{all_words, strays, after_refused}
use Rattle.vectors.proofs.Laws.{and_yes, and_no}
use Rattle.vectors.proofs.runs.refused.Goals as goal
use Rattle.vectors.proofs.runs.refused.Goals.{then-stray, else-stray}

both : (code : List ℕ) (t s r : Tally) (w b : Bool) → w ≡ all_words code 0 16384 0 → s ≡ checked w t → b ≡ (strays code 1 && strays code 1000000) → r ≡ checked b s → r ≡ after_refused code t
unfolding after_refused
both code t s r w b e f g h = cc

pub returns : goal.returns
returns c =
    let a = c.args in
    let k = a.code.now in
    both k a.t c.check-told.result c.check.result c.all_words.result c.if-stray.check c.all_words.ensures c.check-told.ensures
    (elim c.if-stray.branch [
      | then-stray w ↦ w.check-is ∙ w.stray-then-stray.ensures ∙ and_yes (strays k 1) (strays k 1000000) (sym c.stray.ensures ∙ w.if-stray.true)
      | else-stray w ↦ w.check-is ∙ c.stray.ensures ∙ and_no (strays k 1) (strays k 1000000) (sym c.stray.ensures ∙ w.if-stray.false)
    ])
    c.check.ensures
