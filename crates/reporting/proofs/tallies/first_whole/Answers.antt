-- The invariant: the entries from here on decide.
use mathlib.Core.Path.{sym, ap, ◌∙◌}
use native.Mathlib.Omega.{arith}
use lib.IntN.{pos}
use lib.ListN.{get_or}
use mir.Facts.{to_z-of_z}
use Rattle.std.proofs.Common.{rules, FitsSigned, w32}
use Rattle.std.specs.Slice.Iter.{chunks_exact_rest}
use Rattle.reporting.specs.model.Tallying.{first_in}
use Rattle.reporting.proofs.Gathered.{is_zero, not_zero, entry_on, entry_here, no_entry}
use Rattle.reporting.proofs.tallies.first_whole.Goals as goal

pub returns-then-entry-eq0 : goal.returns-then-entry-eq0
returns-then-entry-eq0 c =
    let s = c.in-Some.ensures.steps in
    let i = c.loop-entry.invariant in
    let e = c.in-Some.entry.now in
    let f : FitsSigned w32 (get_or c.in-Some.entry.now 0 (pos 0)) = search rules in
    let g : FitsSigned w32 (get_or c.in-Some.entry.now 1 (pos 0)) = search rules in
    rw (to_z-of_z {w = w32} g) (sym (i.3 ∙ ap first_in s.1.0 ∙ entry_here e (chunks_exact_rest c.next.new.self) (s.1.1 ∙ i.2) (is_zero (get_or e 0 (pos 0)) f.sfits c.if-entry-eq0.true)))

pub loop-entry-preserved : goal.loop-entry-preserved
loop-entry-preserved c =
    let s = c.in-Some.ensures.steps in
    let i = c.loop-entry.invariant in
    let e = c.in-Some.entry.now in
    (omega (arith, s.0, i.2), tt, s.0 ∙ i.2, i.3 ∙ ap first_in s.1.0 ∙ entry_on e (chunks_exact_rest c.next.new.self) (s.1.1 ∙ i.2) (not_zero (get_or e 0 (pos 0)) c.if-entry-eq0.false))

pub returns : goal.returns
returns c =
    let s = c.in-None.ensures.steps in
    let i = c.loop-entry.invariant in
    sym (i.3 ∙ no_entry (chunks_exact_rest c.loop-entry.entry-iterator) (omega (arith, s.1.0, i.2)))
