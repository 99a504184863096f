-- `symbols::notes::counted` meets its contract. Where room is left the symbol counts.
-- Assumes nothing.
use mathlib.Core.Path.{sym}
use Rattle.symbols.proofs.Laws.{counted_none, counted_some}
use Rattle.symbols.proofs.notes.counted.Goals as goal

pub returns-then-room-eq0 : goal.returns-then-room-eq0
returns-then-room-eq0 c = sym (counted_none _ _ _ c.if-room-eq0.true)

pub returns : goal.returns
returns c = rw c.behind.ensures (sym (counted_some _ _ _ c.if-room-eq0.false))
