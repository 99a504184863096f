-- 0.0 and −0.0 are equal to 0.0.
use lib.Ieee.{of_bits}
use Rattle.reals.specs.Values.{quotient}
use Rattle.reals.proofs.operators.quotient.Goals as goal

pub returns-then-y : goal.returns-then-y
unfolding quotient of_bits
returns-then-y c = simp c.if-y.true

pub returns : goal.returns
unfolding quotient of_bits
returns c = simp c.if-y.false c.real.ensures
