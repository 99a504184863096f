-- So many numbers stand there already.
use Prim.Native.Nat.{◌≤◌}
use mathlib.Core.Path.{◌≡◌}
use mathlib.Core.List.{◌++◌}
use lib.ListN.{length, take, drop}
use Rattle.reporting.specs.Numbers.{figures_of}
use Rattle.reporting.proofs.numbers.figures_into.Given as goal

abbrev pub invariant-loop-k : goal.invariant-loop-k
invariant-loop-k l = (length l.room ≡ length l.initial.room) × (l.room ≡ take l.k (figures_of l.r) ++ drop l.k l.initial.room)
