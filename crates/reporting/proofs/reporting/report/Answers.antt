-- What was found before a run, and where sets were found the report of their runs.
use Prim.Native.Nat.{ℕ}
use mathlib.Core.Path.{ap, subst, ◌∙◌}
use lib.IntN.{pos}
use lib.ListN.{replicate}
use Rattle.std.specs.Prelude.{Result}
use Rattle.std.proofs.lemmas.Result.{err_from_is_err_and}
use Rattle.reporting.specs.declared.Refused.{Refused}
use Rattle.reporting.specs.model.Going.{Begins}
use Rattle.reporting.proofs.Answered.{report_refused, reported}
use Rattle.reporting.proofs.reporting.report.Goals as goal

pub returns-in_err-n : goal.returns-in_err-n
returns-in_err-n c =
    let a = c.args in
    let h = subst (λ (x : Result ℕ Refused). Begins a.sets.now x) c.in_err-n.was c.begin.ensures in
    let p = err_from_is_err_and c.from_residual.result c.from_residual.ensures.1 in
    rw (p.1, p.2) (report_refused a.code.now a.sets.now a.limit a.store.now a.output.now h)

pub returns : goal.returns
returns c =
    let a = c.args in
    let h = subst (λ (x : Result ℕ Refused). Begins a.sets.now x) c.in_ok-n.was c.begin.ensures in
    let o = c.fill.ensures.after (λ y e. e) ∙ ap (λ (k : ℕ). replicate k (pos 0)) c.runs-r.auto.output in
    reported a.code.now a.sets.now a.limit a.store.now a.output.now h c.runs-r.ensures.value c.runs-r.ensures.store_after o
