-- `pages::number_in` meets its contract. The number stays small.
-- Assumes nothing.
use Prim.Native.Nat.{◌<◌}
use Rattle.pages.proofs.number_in.Given as goal

abbrev pub invariant-loop-b : goal.invariant-loop-b
invariant-loop-b l = l.v < 1000000
