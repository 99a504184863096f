-- `vectors::runs::stray` meets its contract. The answer is compared, then the place.
-- Assumes nothing.
use mathlib.Core.Path.{◌≡◌, ap, ◌∙◌}
use mathlib.Core.List.{List, [], ◌∷◌}
use Prim.Native.Nat.{ℕ}
use lib.IntN.{ℤ, pos}
use Rattle.machine.specs.Machine.{Exit, exit, job}
use Rattle.machine.specs.declared.Ran.{Ran}
use Rattle.vectors.specs.Ended.{stopped_by, strays}
use Rattle.vectors.proofs.Laws.{same_stop, other_stop}
use Rattle.vectors.proofs.runs.stray.Goals as goal

on-these : (code : List ℕ) (limit : ℕ) (r : Ran) (s o : List ℤ) → exit r s o ≡ job code (pos 0 ∷ []) limit (pos 0 ∷ []) (pos 0 ∷ []) → stopped_by r.stop 29 0 ≡ strays code limit
unfolding strays
on-these code limit r s o e = ap (λ (x : Exit). stopped_by x.ran.stop 29 0) e

pub returns-then-answer-eq29 : goal.returns-then-answer-eq29
returns-then-answer-eq29 c =
    let a = c.args in
    let r = c.run-r.result in
    same_stop r.stop c.answer.result.number 29 0 c.answer.ensures c.place.result c.place.ensures c.if-answer-eq29.true
    ∙ on-these a.code.now a.limit r _ _ c.run-r.ensures

pub returns-else-answer-eq29 : goal.returns-else-answer-eq29
returns-else-answer-eq29 c =
    let a = c.args in
    let r = c.run-r.result in
    other_stop r.stop c.answer.result.number 29 0 c.answer.ensures c.if-answer-eq29.false
    ∙ on-these a.code.now a.limit r _ _ c.run-r.ensures
