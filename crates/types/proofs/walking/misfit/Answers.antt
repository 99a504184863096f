-- `types::walking::misfit` meets its contract: a case for each want.
use mathlib.Core.Path.{sym, subst}
use Rattle.types.specs.model.Arrays.{MeantWithin}
use Rattle.types.specs.model.Passes.{misfit_of}
use Rattle.types.proofs.Stacks.{meant_within}
use Rattle.types.proofs.walking.misfit.Goals as goal

pub returns-then-not-alone : goal.returns-then-not-alone
unfolding misfit_of
returns-then-not-alone c = simp (c.in-Variable.is, c.if-not-alone.true-raw)

pub is_variable-requires : goal.is_variable-requires
is_variable-requires c = (c.requires.1, subst MeantWithin (sym c.meant.ensures) (meant_within c.args.t.last))

pub returns-in-An : goal.returns-in-An
unfolding misfit_of
returns-in-An c = simp (c.in-An.is, c.apart.ensures, c.top.ensures)

pub returns-else-not-alone : goal.returns-else-not-alone
unfolding misfit_of
returns-else-not-alone c = simp (c.in-Variable.is, c.if-not-alone.false-raw, c.is_variable.ensures, c.meant.ensures)

pub returns-in-Nothing : goal.returns-in-Nothing
unfolding misfit_of
returns-in-Nothing c = simp c.in-Nothing.is
