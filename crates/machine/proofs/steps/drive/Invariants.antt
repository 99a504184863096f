-- What is left of the run is the whole of it.
use Rattle.machine.proofs.Limits.{Driving}
use Rattle.machine.proofs.steps.drive.Given as goal

abbrev pub invariant-loop-done : goal.invariant-loop-done
invariant-loop-done l = Driving l.code l.input l.limit l.initial.store l.initial.output l.store l.output l.own l.at l.live l.n l.done
