-- `checking::checking::agreeing` meets its contract. The invariant: so many words agree, and those that agree behind them count too. Assumes nothing.
use Prim.Native.Nat.{◌+◌, ◌≤◌}
use mathlib.Core.Path.{◌≡◌}
use lib.ListN.{length, drop}
use Rattle.checking.specs.model.Comparing.{agreed}
use Rattle.checking.proofs.checking.agreeing.Given as goal

abbrev pub invariant-loop-i : goal.invariant-loop-i
invariant-loop-i l = (agreed l.list l.words ≡ l.i + agreed (drop l.i l.list) (drop l.i l.words)) × (l.i ≤ length l.words)
