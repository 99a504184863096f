-- `symbols::scanning::scan` meets its contract. What `fill` tells, at the limit that the arrays allow.
-- Assumes nothing.
use Rattle.symbols.proofs.scanning.scan.Goals as goal

pub returns : goal.returns
returns c = rw (← c.min.ensures) c.fill.ensures
