-- The two halves are put together.
use mathlib.Core.Path.{ap, ◌∙◌}
use mir.Syntax.{w32}
use mir.Val.{of_z}
use Rattle.reals.proofs.Signed.{read_back}
use Rattle.machine.proofs.Turns.{raised_is, raised_real, raised_truth}
use Rattle.machine.proofs.values.raised.Goals as goal

pub returns-in-Some : goal.returns-in-Some
returns-in-Some c = raised_is c.args.high c.in-Whole.is (c.word.ensures ∙ ap (of_z w32) (read_back w32 c.in-Whole.z c.in-Whole.known_told-1-own.given.0.1)) c.real_of.ensures c.in-Some.is

pub returns-in-None : goal.returns-in-None
returns-in-None c = raised_is c.args.high c.in-Whole.is (c.word.ensures ∙ ap (of_z w32) (read_back w32 c.in-Whole.z c.in-Whole.known_told-1-own.given.0.1)) c.real_of.ensures c.in-None.is

pub returns-in-Real : goal.returns-in-Real
returns-in-Real c = raised_real c.args.high c.in-Real.is

pub returns-in-Truth : goal.returns-in-Truth
returns-in-Truth c = raised_truth c.args.high c.in-Truth.is
