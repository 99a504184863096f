-- `deed::commands::settle` meets its contract. It is help, or what the command gives.
-- Assumes nothing.
use mathlib.Core.Path.{sym, ◌∙◌}
use Rattle.deed.specs.Commands.{settled}
use Rattle.deed.proofs.commands.settle.Goals as goal

pub returns-then-same_bytes : goal.returns-then-same_bytes
unfolding settled
returns-then-same_bytes c = simp (sym c.same_bytes.ensures ∙ c.if-same_bytes.true)

pub returns : goal.returns
unfolding settled
returns c = simp (sym c.same_bytes.ensures ∙ c.if-same_bytes.false) c.does.ensures
