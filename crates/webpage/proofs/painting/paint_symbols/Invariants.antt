-- `webpage::painting::paint_symbols` meets its contract: what a symbol is painted with marks nothing, and lies in the source.
-- Assumes nothing.
use Prim.Native.Nat.{◌+◌, ◌*◌, ◌-◌, ◌≤◌}
use mathlib.Core.Path.{◌≡◌}
use lib.ListN.{length}
use Rattle.webpage.specs.Looks.{Behind, Unmarking}
use Rattle.webpage.proofs.painting.paint_symbols.Given as goal

abbrev pub invariant-loop-k : goal.invariant-loop-k
invariant-loop-k l =
    (l.k ≤ 2048) × (l.row ≤ 3 * l.k + 1) × (length l.looks ≡ length l.initial.looks) × (length l.levels ≡ length l.initial.levels) × Unmarking (length l.source) l.initial.looks l.looks × Behind (length l.source) l.initial.levels l.levels

abbrev pub decreases-loop-k : goal.decreases-loop-k
decreases-loop-k l = 2048 - l.k
