-- `deed::help::tell_words` meets its contract. The next word begins behind this one, which is not empty.
-- Assumes nothing.
use Prim.Native.Nat.{◌-◌}
use lib.ListN.{length}
use Rattle.deed.proofs.help.tell_words.Given as goal

abbrev pub decreases-loop-at : goal.decreases-loop-at
decreases-loop-at l = length l.line - l.at
