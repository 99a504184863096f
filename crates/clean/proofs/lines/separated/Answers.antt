-- `clean::lines::separated` meets its contract: the two cases of a heading. Assumes nothing.
use Rattle.clean.proofs.Turns.{in_heading, out_of_heading}
use Rattle.clean.proofs.lines.separated.Goals as goal

pub returns-then-s : goal.returns-then-s
returns-then-s c = in_heading _ _ _ _ _ c.if-s.true c.in_heading.ensures

pub returns : goal.returns
returns c = out_of_heading _ _ _ _ c.if-s.false c.outside.ensures
