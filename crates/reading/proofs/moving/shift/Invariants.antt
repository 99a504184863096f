-- `reading::moving::shift` meets its contract. The invariant: the first i nodes were shifted. Assumes nothing.
use Rattle.reading.proofs.Moves.{Shifting}
use Rattle.reading.proofs.moving.shift.Given as goal

abbrev pub invariant-loop-i : goal.invariant-loop-i
invariant-loop-i l = Shifting l.initial.nodes l.nodes l.m l.count l.i
