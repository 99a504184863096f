-- `clean::layout::lay_out` meets its contract: what is set down and what is left is the page (`Laying`). Assumes nothing.
use Rattle.clean.proofs.Laying.{Laying}
use Rattle.clean.proofs.layout.lay_out.Given as goal

abbrev pub invariant-loop-i : goal.invariant-loop-i
invariant-loop-i l = Laying l.source l.kinds l.places l.initial.page l.page l.held l.s l.at l.i
