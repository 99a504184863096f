-- `meanings::is_variable`: a declaration that is no procedure, of a type that is not apart.
use mathlib.Core.Path.{sym, ◌∙◌}
use mathlib.Core.Bool.{true, false}
use Rattle.types.specs.model.Passes.{variable_of}
use Rattle.types.proofs.RowWords.{from_not}
use Rattle.types.proofs.meanings.is_variable.Goals as goal

pub returns-then-not-is_kind : goal.returns-then-not-is_kind
unfolding variable_of
returns-then-not-is_kind c = simp (c.in-Declared.is, sym (from_not _ true c.if-not-is_kind.true-raw ∙ c.is_kind.ensures), c.apart.ensures, c.sort_of.ensures)

pub returns-else-not-is_kind : goal.returns-else-not-is_kind
unfolding variable_of
returns-else-not-is_kind c = simp (c.in-Declared.is, sym (from_not _ false c.if-not-is_kind.false-raw ∙ c.is_kind.ensures)) c.if-not-is_kind.false-raw

pub returns-in-Given : goal.returns-in-Given
unfolding variable_of
returns-in-Given c = simp c.in-Given.is

pub returns-in-Nothing : goal.returns-in-Nothing
unfolding variable_of
returns-in-Nothing c = simp c.in-Nothing.is
