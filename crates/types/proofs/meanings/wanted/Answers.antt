-- `types::meanings::wanted` meets its contract: a case for each kind of meaning. A formal's number is near its procedure's.
use mathlib.Core.Path.{sym, subst, ◌∙◌}
use native.Mathlib.Omega.{arith}
use borrow.Author.Tests.{le-leb, lt-leb}
use mathlib.Core.Bool.{true, false}
use Rattle.types.proofs.RowWords.{from_not}
use Rattle.types.specs.model.Passes.{want_of}
use Rattle.types.specs.model.Arrays.{MeantWithin}
use Rattle.types.proofs.meanings.wanted.Goals as goal

pub returns-then-not-is_kind : goal.returns-then-not-is_kind
unfolding want_of
returns-then-not-is_kind c = simp (c.in-Declared.is, sym (from_not _ true c.if-not-is_kind.true-raw ∙ c.is_kind.ensures))

pub formals-requires : goal.formals-requires
formals-requires c = let h = subst MeantWithin c.in-Declared.is c.requires.1 in (omega arith, omega arith)

pub returns-then-formals-k : goal.returns-then-formals-k
unfolding want_of
returns-then-formals-k c = simp (c.in-Declared.is, sym (from_not _ false c.if-not-is_kind.false-raw ∙ c.is_kind.ensures), le-leb _ _ (rw c.formals.ensures.value at c.if-formals-k.true))

pub overflow_add-at : goal.overflow_add-at
overflow_add-at c = let h = subst MeantWithin c.in-Declared.is c.requires.1 in omega arith

pub overflow_add-at-in-Declared : goal.overflow_add-at-in-Declared
overflow_add-at-in-Declared c = let h = subst MeantWithin c.in-Declared.is c.requires.1 in omega arith

pub returns-else-formals-k : goal.returns-else-formals-k
unfolding want_of
returns-else-formals-k c = simp (c.in-Declared.is, sym (from_not _ false c.if-not-is_kind.false-raw ∙ c.is_kind.ensures), lt-leb _ _ (rw c.formals.ensures.value at c.if-formals-k.false), c.sort_of.ensures)

pub returns-in-Given : goal.returns-in-Given
unfolding want_of
returns-in-Given c = simp c.in-Given.is c.given_wants.ensures

pub returns-in-Nothing : goal.returns-in-Nothing
unfolding want_of
returns-in-Nothing c = simp c.in-Nothing.is
