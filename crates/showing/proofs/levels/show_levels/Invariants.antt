-- `showing::levels::show_levels` meets its contract. After k nodes at most k scopes are open, and the number of the last one is at most k.
-- Assumes nothing.
use Prim.Native.Nat.{◌≤◌}
use Rattle.showing.proofs.levels.show_levels.Given as goal

abbrev pub invariant-loop-k : goal.invariant-loop-k
invariant-loop-k l = (l.level ≤ l.k) × (l.scope ≤ l.k)
