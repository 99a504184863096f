-- The invariant: so many numbers agree, and those that agree behind them count too.
use Prim.Native.Nat.{◌+◌}
use mathlib.Core.Path.{◌≡◌}
use lib.ListN.{drop}
use Rattle.records.specs.model.Replaying.{agreed}
use Rattle.records.proofs.replaying.agreeing.Given as goal

abbrev pub invariant-loop-i : goal.invariant-loop-i
invariant-loop-i l = agreed l.a l.b ≡ l.i + agreed (drop l.i l.a) (drop l.i l.b)
