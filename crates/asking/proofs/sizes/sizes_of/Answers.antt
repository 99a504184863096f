-- `asking::sizes::sizes_of` meets its contract. By what the callees tell of the three options.
-- Assumes nothing.
use mathlib.Core.Path.{◌∙◌}
use Rattle.asking.specs.Options.{sizes_of}
use Rattle.asking.proofs.sizes.sizes_of.Goals as goal

pub returns : goal.returns
unfolding sizes_of
returns c = c.sizes_in.ensures ∙ rw (c.option-limit.ensures, c.option-cells.ensures, c.option-room.ensures)
