-- `showing::text::spot_of` meets its contract. Line and start are those of the place that the loop has come to; behind the end they stay.
-- Assumes nothing.
use Prim.Native.Nat.{◌-◌, ◌≤◌}
use mathlib.Core.Path.{◌≡◌}
use Rattle.showing.specs.Pages.{start_of, line_of}
use Rattle.showing.proofs.text.spot_of.Given as goal

abbrev pub invariant-loop-i : goal.invariant-loop-i
invariant-loop-i l = (l.i ≤ l.end) × (l.start ≡ start_of l.source l.i) × (l.line ≡ line_of l.source l.i)

abbrev pub decreases-loop-i : goal.decreases-loop-i
decreases-loop-i l = l.end - l.i
