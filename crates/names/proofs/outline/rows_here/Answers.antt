-- `names::outline::rows_here` meets its contract: its scope is the innermost, its identity the name's.
-- Assumes nothing.
use Rattle.names.proofs.outline.rows_here.Goals as goal

pub returns : goal.returns
returns c = rw (c.here.ensures, c.identity_of.ensures)
