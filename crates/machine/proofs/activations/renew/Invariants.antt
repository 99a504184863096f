-- The entries above the level reached are those of the activation that is to run.
use mathlib.Core.Path.{◌≡◌}
use Rattle.machine.specs.model.Holding.{level_at}
use Rattle.machine.proofs.Levels.{Renewing}
use Rattle.machine.proofs.activations.renew.Given as goal

abbrev pub invariant-loop-own : goal.invariant-loop-own
invariant-loop-own l = (l.top ≡ level_at l.initial.own l.from) × Renewing l.initial.own l.own l.to l.f l.j

abbrev pub decreases-loop-own : goal.decreases-loop-own
decreases-loop-own l = l.j
