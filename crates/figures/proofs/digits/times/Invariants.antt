-- `figures::digits::times` meets its contract: what is carried stands for the digits to come, until all are written and nothing is carried.
-- Assumes nothing.
use Rattle.figures.proofs.Spelling.{Worked}
use Rattle.figures.proofs.digits.times.Given as goal

abbrev pub invariant-loop-d : goal.invariant-loop-d
invariant-loop-d l = Worked l.initial.a l.k l.c l.a l.carry l.d-index
