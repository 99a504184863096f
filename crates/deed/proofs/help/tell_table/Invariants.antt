-- `deed::help::tell_table` meets its contract. The next row begins behind this one, which is not empty.
-- Assumes nothing.
use Prim.Native.Nat.{◌-◌}
use lib.ListN.{length}
use Rattle.deed.proofs.help.tell_table.Given as goal

abbrev pub decreases-loop-at : goal.decreases-loop-at
decreases-loop-at l = length l.rows - l.at
