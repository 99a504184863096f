-- The formals from the outermost on: those left decide as all do.
use Rattle.machine.specs.model.Holding.{links_of}
use Rattle.machine.specs.model.Quick.{OnWholes}
use Rattle.machine.proofs.quick.whole_way.Given as goal

abbrev pub invariant-loop-j : goal.invariant-loop-j
invariant-loop-j l = OnWholes (links_of l.own l.j) → OnWholes (links_of l.own l.k)
