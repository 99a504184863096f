-- `asking::lists::list_in` meets its contract. The invariant, `Put`: so many words are taken, and the rest begins at `at`.
-- Assumes nothing.
use mathlib.Core.Path.{◌≡◌}
use Prim.Native.Nat.{◌-◌}
use lib.ListN.{length}
use Rattle.asking.proofs.Sending.{Put}
use Rattle.asking.proofs.lists.list_in.Given as goal

abbrev pub invariant-loop-at : goal.invariant-loop-at
invariant-loop-at l = (length l.list ≡ length l.initial.list) × Put l.line l.initial.list l.list l.at l.n

abbrev pub decreases-loop-at : goal.decreases-loop-at
decreases-loop-at l = length l.line - l.at
