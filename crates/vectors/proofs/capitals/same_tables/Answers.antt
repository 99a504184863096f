-- `vectors::capitals::same_tables` meets its contract. Whether the rest from i on is equal is whether all is.
-- Assumes nothing.
use mathlib.Core.Path.{refl, sym, ◌∙◌}
use native.Mathlib.Omega.{arith}
use Rattle.symbols.proofs.Laws.{equal_on, equal_off, equal_end, equal_length}
use Rattle.vectors.proofs.capitals.same_tables.Goals as goal

pub returns-then-a-b : goal.returns-then-a-b
returns-then-a-b c = sym (equal_length _ _ c.if-a-b.true)

pub loop-i-init : goal.loop-i-init
loop-i-init c = (c.if-a-b.false, refl)

pub bounds-b-i : goal.bounds-b-i
bounds-b-i c = omega (arith, c.loop-i.invariant.0)

pub returns-then-a-i : goal.returns-then-a-i
returns-then-a-i c =
    let l = c.loop-i in
    sym (l.invariant.1 ∙ equal_off _ _ l.i (omega arith) (omega (arith, l.invariant.0)) c.if-a-i.true)

pub loop-i-preserved : goal.loop-i-preserved
loop-i-preserved c =
    let l = c.loop-i in
    (l.invariant.0, l.invariant.1 ∙ equal_on _ _ l.i (omega arith) (omega (arith, l.invariant.0)) c.if-a-i.false)

pub returns : goal.returns
returns c =
    let l = c.loop-i in
    sym (l.invariant.1 ∙ equal_end _ _ l.i (omega arith) (omega (arith, l.invariant.0)))
