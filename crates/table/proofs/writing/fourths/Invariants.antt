-- `writing::fourths`: the uses passed have their kinds.
use Rattle.table.proofs.Fourths.{Kinded}
use Rattle.table.proofs.writing.fourths.Given as goal

abbrev pub invariant-loop-i : goal.invariant-loop-i
invariant-loop-i l = Kinded l.initial.words l.words l.i
