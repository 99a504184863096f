-- `symbols::scanning::fill` meets its contract. The loop carries what stands so far; a step is read off what `next` tells.
-- Assumes nothing.
use Prim.Native.Nat.{◌-◌}
use lib.ListN.{length}
use Rattle.symbols.proofs.Filling.{SoFar}
use Rattle.symbols.proofs.scanning.fill.Given as goal

abbrev pub invariant-loop-s : goal.invariant-loop-s
invariant-loop-s l = SoFar l.room l.source l.initial.kinds l.initial.places l.initial.values l.kinds l.places l.values l.cursor l.n

abbrev pub decreases-loop-s : goal.decreases-loop-s
decreases-loop-s l = length l.source - l.cursor.at
