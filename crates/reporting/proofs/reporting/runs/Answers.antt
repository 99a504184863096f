-- The invariant, `Gathering`: what is gathered so far and the runs of the sets that are left are all runs, in some order.
use Prim.Native.Nat.{◌≤◌}
use native.Mathlib.Omega.{arith}
use Rattle.reporting.proofs.Runs.{gathering_start, runs_end}
use Rattle.reporting.proofs.reporting.runs.Goals as goal

pub loop-init : goal.loop-init
loop-init c =
    let a = c.args in
    let x = c.requires in
    (x, omega (arith, c.start-g.ensures.left_value), gathering_start a.code.now a.sets.now x.ss a.limit a.store.now a.output.now a.n x.words x.many c.start-g.ensures.report_value c.start-g.ensures.left_value c.start-g.ensures.at_value)

pub next_run-requires : goal.next_run-requires
next_run-requires c =
    let a = c.args in
    let i = c.loop.invariant in
    record { ss = i.0.ss; store₀ = a.store.now; output₀ = a.output.now; n = a.n; few = i.0.few; so_far = i.2; more = omega (arith, c.loop-test.true, i.1) }

pub loop-preserved : goal.loop-preserved
loop-preserved c =
    let a = c.args in
    let i = c.loop.invariant in
    (i.0, omega (arith, i.1, c.next_run.ensures.left_value), c.next_run.ensures.further i.0.ss a.store.now a.output.now a.n i.0.few i.2)

pub shape_of-store : goal.shape_of-store
shape_of-store c = c.loop.invariant.2.long_store

pub shape_of-output : goal.shape_of-output
shape_of-output c = c.loop.invariant.2.long_output

pub returns : goal.returns
returns c =
    let i = c.loop.invariant in
    let x = i.0 in
    let z : c.loop.g.left ≤ 0 = omega (arith, c.loop-test.false, i.1) in
    record { value = λ ss q. (runs_end i.2 x.few z x.many x.words ss q).0; store_after = λ ss q. (runs_end i.2 x.few z x.many x.words ss q).1 }
