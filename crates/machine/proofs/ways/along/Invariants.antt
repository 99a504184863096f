-- The formals from the outermost on: those left decide as all do.
use mathlib.Core.Path.{◌≡◌}
use Rattle.machine.specs.model.Holding.{all_suit, links_of}
use Rattle.machine.proofs.ways.along.Given as goal

abbrev pub invariant-loop-j : goal.invariant-loop-j
invariant-loop-j l = all_suit l.form (links_of l.own l.j) ≡ all_suit l.form (links_of l.own l.k)
