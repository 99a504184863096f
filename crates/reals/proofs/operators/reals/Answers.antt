-- What is unequal is what is not equal.
use lib.Ieee.{ne}
use Rattle.reals.specs.Values.{apply2, on_numbers, both_of}
use Rattle.reals.proofs.operators.reals.Goals as goal

pub returns-in-Unequal : goal.returns-in-Unequal
unfolding apply2 both_of on_numbers ne
returns-in-Unequal c = simp c.in-Unequal.is
