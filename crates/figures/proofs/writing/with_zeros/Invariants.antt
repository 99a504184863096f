-- `figures::writing::with_zeros` meets its contract: after so many turns as many zeros are on.
-- Assumes nothing.
use mathlib.Core.Path.{◌≡◌}
use Prim.Native.Nat.{◌*◌, ◌^◌}
use Rattle.figures.proofs.writing.with_zeros.Given as goal

abbrev pub invariant-loop : goal.invariant-loop
invariant-loop l = l.all ≡ l.c * 10 ^ l.counter
