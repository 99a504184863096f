-- `vectors::runs::ran` meets its contract. What the run hands back and leaves is compared.
-- Assumes nothing.
use mathlib.Core.Path.{◌≡◌, ap, ◌∙◌}
use mathlib.Core.Bool.{Bool}
use mathlib.Core.List.{List}
use Prim.Native.Nat.{ℕ}
use lib.IntN.{ℤ}
use Rattle.machine.specs.Machine.{Exit, exit, job}
use Rattle.machine.specs.declared.Ran.{Ran}
use Rattle.vectors.specs.declared.tally.Tally.{Tally}
use Rattle.vectors.specs.Listed.{checked}
use Rattle.vectors.specs.Ended.{cleared, after_stop, after_exit}
use Rattle.vectors.proofs.runs.ran.Goals as goal

compared : (e : Exit) (text : List ℕ) (from : ℕ) (t k u : Tally) (r : Ran) (s o : List ℤ) (z : Bool)
    → exit r s o ≡ e → z ≡ cleared s → k ≡ checked z t → u ≡ after_stop r o text from k → u ≡ after_exit e text from t
compared e text from t k u r s o z e1 e2 e3 e4 =
    let f : u ≡ after_exit (exit r s o) text from t = cc in
    f ∙ ap (λ (x : Exit). after_exit x text from t) e1

pub returns : goal.returns
returns c =
    let a = c.args in
    compared (job a.code.now a.input.now a.limit a.store.now a.output.now) a.text.now a.from a.t c.check-told.result c.stopped.result c.run-r.result _ _ c.is_cleared.result
    c.run-r.ensures c.is_cleared.ensures c.check-told.ensures c.stopped.ensures
