-- The invariant: the entries that are left, from here on, decide.
use Prim.Native.Nat.{◌-◌}
use mathlib.Core.Path.{◌≡◌, sym, ◌∙◌}
use native.Mathlib.Omega.{arith}
use Rattle.std.proofs.lemmas.Result.{err_from_is_err_and}
use Rattle.records.specs.model.Scanning.{row_of}
use Rattle.records.proofs.Scanned.{entries_on, entries_end}
use Rattle.records.proofs.scanning.entries.Goals as goal

pub loop-init : goal.loop-init
loop-init c = let z : c.args.m - 0 ≡ c.args.m = omega arith in rw z

pub returns-in_err-end : goal.returns-in_err-end
returns-in_err-end c =
    let p = err_from_is_err_and c.from_residual.result c.from_residual.ensures.1 in
    rw (p.1, p.2) (sym (c.loop.invariant ∙ entries_on c.args.words.now (row_of c.args.s) c.args.m c.loop.counter c.loop.end c.loop-test.true (sym c.entry.ensures ∙ c.in_err-end.was)))

pub loop-preserved : goal.loop-preserved
loop-preserved c = c.loop.invariant ∙ entries_on c.args.words.now (row_of c.args.s) c.args.m c.loop.counter c.loop.end c.loop-test.true (sym c.entry.ensures ∙ c.in_ok-end.was)

pub returns : goal.returns
returns c = sym (c.loop.invariant ∙ entries_end c.args.words.now (row_of c.args.s) (c.args.m - c.loop.counter) c.loop.end (omega (arith, c.loop-test.false)))
