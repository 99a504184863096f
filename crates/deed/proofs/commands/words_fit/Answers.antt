-- `deed::commands::words_fit` meets its contract. By what `fits` tells.
-- Assumes nothing.
use mathlib.Core.Path.{sym, ◌∙◌}
use Rattle.deed.specs.Commands.{full}
use Rattle.deed.proofs.commands.words_fit.Goals as goal

pub returns-then-f : goal.returns-then-f
unfolding full
returns-then-f c = sym c.if-f.true ∙ c.fits-f.ensures.good

pub returns-then-a-b : goal.returns-then-a-b
unfolding full
returns-then-a-b c = sym c.if-f.false ∙ c.fits-f.ensures.good

pub returns : goal.returns
unfolding full
returns c = sym c.if-f.false ∙ c.fits-f.ensures.good
