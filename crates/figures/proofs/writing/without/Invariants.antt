-- `figures::writing::without` meets its contract: after so many turns as many digits are off.
-- Assumes nothing.
use mathlib.Core.Path.{◌≡◌}
use Prim.Native.Nat.{◌/◌, ◌^◌}
use Rattle.figures.proofs.writing.without.Given as goal

abbrev pub invariant-loop : goal.invariant-loop
invariant-loop l = l.rest ≡ l.c / 10 ^ l.counter
