-- `deed::commands::sizes_fit` meets its contract. The sizes can be had, or they cannot.
-- Assumes nothing.
use mathlib.Core.Path.{sym, ap, ◌∙◌}
use Rattle.deed.specs.Commands.{had, sized}
use Rattle.deed.proofs.commands.sizes_fit.Goals as goal

pub returns-in_default : goal.returns-in_default
unfolding sized
returns-in_default c = sym (ap had (sym c.sizes_of.ensures ∙ c.in_default.is))

pub returns : goal.returns
unfolding sized
returns c = sym (ap had (sym c.sizes_of.ensures ∙ c.in-Some.is))
