-- `figures::digits::times_power` meets its contract: after so many turns the number has the factor to that power.
-- Assumes nothing.
use Rattle.std.proofs.Common.{◌≡◌, ◌*◌, ◌^◌}
use Rattle.figures.specs.Digits.{value, Number}
use Rattle.figures.proofs.digits.times_power.Given as goal

abbrev pub invariant-loop : goal.invariant-loop
invariant-loop l = Number l.a × (value l.a ≡ value l.initial.a * l.k ^ l.counter)
