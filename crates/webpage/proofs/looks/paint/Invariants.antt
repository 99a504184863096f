-- `webpage::looks::paint` meets its contract: the words up to i are painted already.
-- Assumes nothing.
use Prim.Native.Nat.{◌≤◌, max}
use mathlib.Core.Path.{◌≡◌}
use lib.ListN.{length}
use Rattle.webpage.specs.Looks.{Painted}
use Rattle.webpage.proofs.looks.paint.Given as goal

abbrev pub invariant-loop-i : goal.invariant-loop-i
invariant-loop-i l = (length l.row ≡ length l.initial.row) × (l.from ≤ l.i) × (l.i ≤ max l.from l.i-end) × Painted l.from l.i l.x l.initial.row l.row
