-- `showing::text::line_row` meets its contract. The row holds the first n bytes of the line as they are shown, and the others are ahead from i on.
-- Assumes nothing.
use Prim.Native.Nat.{◌-◌}
use lib.ListN.{length}
use Rattle.showing.specs.Pages.{shown_from}
use Rattle.showing.proofs.Rows.{Filled}
use Rattle.showing.proofs.text.line_row.Given as goal

-- ---- the answers
abbrev pub invariant-loop-i : goal.invariant-loop-i
invariant-loop-i l = Filled (shown_from l.source l.from) l.initial.row l.row (shown_from l.source l.i) l.n

abbrev pub decreases-loop-i : goal.decreases-loop-i
decreases-loop-i l = length l.source - l.i
