-- `types::meanings::as_left` meets its contract: a case for each kind of meaning.
use Prim.Native.Nat.{ℕ}
use mathlib.Core.Path.{ap}
use mathlib.Core.Bool.{false}
use borrow.Author.Tests.{eq-eqb, ne_eqb}
use Rattle.types.specs.model.Passes.{judgement, sort_in, left_of}
use Rattle.types.proofs.meanings.as_left.Goals as goal

pub returns-then-r-eq-PROCEDURE : goal.returns-then-r-eq-PROCEDURE
unfolding left_of
returns-then-r-eq-PROCEDURE c = rw (c.in-Declared.is, ← c.row-r.ensures, eq-eqb _ _ c.if-r-eq-PROCEDURE.true) c.own_result.ensures

pub returns-else-r-eq-PROCEDURE : goal.returns-else-r-eq-PROCEDURE
unfolding left_of sort_in
returns-else-r-eq-PROCEDURE c = rw (c.in-Declared.is, ← c.row-r.ensures, ne_eqb _ _ c.if-r-eq-PROCEDURE.false) (ap (λ (t : ℕ). judgement t false) c.sort.ensures.value)

pub returns-in-Given : goal.returns-in-Given
unfolding left_of
returns-in-Given c = simp c.in-Given.is

pub returns-in-Nothing : goal.returns-in-Nothing
unfolding left_of
returns-in-Nothing c = simp c.in-Nothing.is
