-- `figures::writing::put_digits` meets its contract: i digits are left to put, those of the rest.
-- Assumes nothing.
use Rattle.figures.proofs.Rows.{Left}
use Rattle.figures.proofs.writing.put_digits.Given as goal

abbrev pub invariant-loop-i : goal.invariant-loop-i
invariant-loop-i l = Left l.initial.row l.at l.n l.c l.row l.rest l.i
