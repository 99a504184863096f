-- `showing::text::mark_row` meets its contract. The row holds the first n bytes of what stands before the mark, and the others are ahead from i on.
-- Assumes nothing.
use Prim.Native.Nat.{◌-◌}
use Rattle.showing.specs.Pages.{marks_from}
use Rattle.showing.proofs.Rows.{Filled}
use Rattle.showing.proofs.text.mark_row.Given as goal

-- ---- the answers
abbrev pub invariant-loop-i : goal.invariant-loop-i
invariant-loop-i l = Filled (marks_from l.source l.from l.place) l.initial.row l.row (marks_from l.source l.i l.place) l.n

abbrev pub decreases-loop-i : goal.decreases-loop-i
decreases-loop-i l = l.place - l.i
