-- One answer more, and the value of a run that ended with one.
use mathlib.Core.Path.{◌≡◌, sym, ap, ◌∙◌}
use mathlib.Core.Option.{some}
use lib.IntN.{ℤ}
use Rattle.std.proofs.Common.{rules, FitsSigned, w32}
use Rattle.reals.proofs.Signed.{read_back}
use Rattle.reporting.specs.model.Tallying.{first_of, first_in, valued}
use Rattle.reporting.proofs.Gathered.{also_not, also_none, also_some, same_sum}
use Rattle.reporting.proofs.tallies.tallied.Goals as goal

pub returns-then-answer-ne0 : goal.returns-then-answer-ne0
returns-then-answer-ne0 c =
    let v = first_of (first_in c.args.written.now) in
    record { value = also_not c.args.answer v c.args.r c.one_more-counts.ensures c.if-answer-ne0.true c.without_value.ensures; sum_bound = same_sum c.args.r c.one_more-counts.result 0 c.without_value.ensures }

pub returns-in-Some : goal.returns-in-Some
returns-in-Some c =
    let v = first_of (first_in c.args.written.now) in
    let x = c.in-Some.x in
    let f : FitsSigned w32 c.in-Some.x = search rules in
    let b = read_back w32 x f.sfits in
    let q : c.with_value.result ≡ valued c.one_more-counts.result (some x) c.args.r = c.with_value.ensures.value ∙ ap (λ (z : ℤ). valued c.one_more-counts.result (some z) c.args.r) b in
    record { value = also_some c.args.answer v c.args.r c.one_more-counts.ensures x c.if-answer-ne0.false (ap first_of (sym c.first_whole.ensures ∙ c.in-Some.is)) q; sum_bound = c.with_value.ensures.sum_bound }

pub returns-in-None : goal.returns-in-None
returns-in-None c =
    let v = first_of (first_in c.args.written.now) in
    record { value = also_none c.args.answer v c.args.r c.one_more-counts.ensures c.if-answer-ne0.false (ap first_of (sym c.first_whole.ensures ∙ c.in-None.is)) c.without_value-in-None.ensures; sum_bound = same_sum c.args.r c.one_more-counts.result 1 c.without_value-in-None.ensures }
