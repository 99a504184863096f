-- `types::meanings::in_expression` meets its contract: a case for each kind of meaning.
use mathlib.Core.Path.{sym, subst, ◌∙◌}
use native.Mathlib.Omega.{arith}
use Rattle.types.specs.model.Passes.{primary_of}
use Rattle.types.specs.model.Arrays.{MeantWithin}
use Rattle.types.proofs.meanings.in_expression.Goals as goal

pub formals-requires : goal.formals-requires
formals-requires c = let h = subst MeantWithin c.in-Declared.is c.requires.1 in (omega arith, omega arith)

pub returns-then-is_kind : goal.returns-then-is_kind
unfolding primary_of
returns-then-is_kind c = simp (c.in-Declared.is, sym c.is_kind.ensures ∙ c.if-is_kind.true) (simp (c.sort_of-sort.ensures, c.formals.ensures.value) at c.applied.ensures)

pub returns-else-is_kind : goal.returns-else-is_kind
unfolding primary_of
returns-else-is_kind c = simp (c.in-Declared.is, sym c.is_kind.ensures ∙ c.if-is_kind.false) (simp c.sort_of-sort.ensures at c.plainly.ensures)

pub returns-in-Given : goal.returns-in-Given
unfolding primary_of
returns-in-Given c = simp c.in-Given.is (simp (c.given_sort.ensures, c.given_formals.ensures) at c.applied-in-Given.ensures)

pub returns-in-Nothing : goal.returns-in-Nothing
unfolding primary_of
returns-in-Nothing c = simp c.in-Nothing.is
