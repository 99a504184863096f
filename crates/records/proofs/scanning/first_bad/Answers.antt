-- The invariant: the sections that are left, from here on, decide.
use Prim.Native.Nat.{◌-◌}
use mathlib.Core.Path.{◌≡◌, sym, ap, ◌∙◌}
use native.Mathlib.Omega.{arith}
use borrow.Author.Tests.{lt-ltb, le-ltb}
use Rattle.std.proofs.lemmas.Result.{err_from_is_err_and}
use Rattle.records.specs.declared.Section.{Section}
use Rattle.records.specs.model.Scanning.{row_of, section_at}
use Rattle.records.proofs.Scanned.{scan_on, scan_end}
use Rattle.records.proofs.scanning.first_bad.Goals as goal

pub loop-k-init : goal.loop-k-init
loop-k-init c = let z : c.args.n - 0 ≡ c.args.n = omega arith in rw z

pub returns-in_err-end : goal.returns-in_err-end
returns-in_err-end c =
    let w = c.args.words.now in
    let p = err_from_is_err_and c.from_residual.result c.from_residual.ensures.1 in
    rw (p.1, p.2)
    (sym (c.loop-k.invariant ∙ scan_on w c.args.t c.args.n c.loop-k.k c.loop-k.end c.loop-k-test.true (ap (λ (z : Section). section_at (row_of z) w c.loop-k.end) (sym c.section_of.ensures) ∙ sym c.section.ensures ∙ c.in_err-end.was)))

pub loop-k-preserved : goal.loop-k-preserved
loop-k-preserved c =
    let w = c.args.words.now in
    c.loop-k.invariant ∙ scan_on w c.args.t c.args.n c.loop-k.k c.loop-k.end c.loop-k-test.true (ap (λ (z : Section). section_at (row_of z) w c.loop-k.end) (sym c.section_of.ensures) ∙ sym c.section.ensures ∙ c.in_ok-end.was)

pub returns-then-end-words : goal.returns-then-end-words
returns-then-end-words c =
    let w = c.args.words.now in
    sym (c.loop-k.invariant ∙ scan_end w c.args.t c.args.n c.loop-k.k c.loop-k.end c.loop-k-test.false ∙ rw (lt-ltb _ _ c.if-end-words.true))

pub returns : goal.returns
returns c =
    let w = c.args.words.now in
    sym (c.loop-k.invariant ∙ scan_end w c.args.t c.args.n c.loop-k.k c.loop-k.end c.loop-k-test.false ∙ rw (le-ltb _ _ c.if-end-words.false))
