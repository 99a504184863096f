-- `pages::run_rows` meets its contract. No more rows differ than were run.
-- Assumes nothing.
use Prim.Native.Nat.{◌≤◌}
use Rattle.pages.proofs.run_rows.Given as goal

abbrev pub invariant-loop-i : goal.invariant-loop-i
invariant-loop-i l = l.differing ≤ l.i
