-- The invariant, `Gathering`: what is gathered so far and the runs of the sets that are left are all runs, in some order.
use Prim.Native.Nat.{◌+◌}
use mathlib.Core.Path.{◌≡◌}
use Rattle.reporting.specs.model.Going.{SetsIn, Gathering}
use Rattle.reporting.proofs.reporting.runs.Given as goal

abbrev pub invariant-loop : goal.invariant-loop
invariant-loop l = (x : SetsIn l.sets l.n) × (l.counter + l.g.left ≡ l.n) × Gathering l.code l.sets x.ss l.limit l.initial.store l.initial.output l.store l.output l.n l.g.report l.g.left l.g.at
