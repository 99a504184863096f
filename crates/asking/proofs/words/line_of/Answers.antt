-- `asking::words::line_of` meets its contract, which is that of `lay`.
-- Assumes nothing.
use Rattle.asking.proofs.words.line_of.Goals as goal

pub shape_of-row : goal.shape_of-row
shape_of-row c = c.lay.ensures.kept

pub returns : goal.returns
returns c = c.lay.ensures
