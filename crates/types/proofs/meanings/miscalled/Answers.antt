-- `meanings::miscalled`: a declaration that is no procedure, or one with other formals.
use mathlib.Core.Path.{sym, ◌∙◌}
use mathlib.Core.Bool.{true, false}
use Rattle.types.specs.model.Passes.{miscalled_of}
use Rattle.types.proofs.RowWords.{from_not}
use Rattle.types.proofs.meanings.miscalled.Goals as goal

pub returns-then-not-is_kind : goal.returns-then-not-is_kind
unfolding miscalled_of
returns-then-not-is_kind c = simp (c.in-Declared.is, sym (from_not _ true c.if-not-is_kind.true-raw ∙ c.is_kind.ensures)) c.if-not-is_kind.true-raw

pub returns-else-not-is_kind : goal.returns-else-not-is_kind
unfolding miscalled_of
returns-else-not-is_kind c = simp (c.in-Declared.is, sym (from_not _ false c.if-not-is_kind.false-raw ∙ c.is_kind.ensures), c.formals.ensures.value)

pub returns-in-Given : goal.returns-in-Given
unfolding miscalled_of
returns-in-Given c = simp (c.in-Given.is, c.given_formals.ensures)

pub returns-in-Nothing : goal.returns-in-Nothing
unfolding miscalled_of
returns-in-Nothing c = simp c.in-Nothing.is
