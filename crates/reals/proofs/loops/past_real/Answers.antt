-- A real is past by its sign: one line for each of the two tests.
use lib.Ieee.{of_bits}
use Rattle.reals.specs.Values.{past_r}
use Rattle.reals.proofs.loops.past_real.Goals as goal

pub returns-then-x : goal.returns-then-x
unfolding past_r of_bits
returns-then-x c = simp c.if-x.true

pub returns-then-x-2 : goal.returns-then-x-2
unfolding past_r of_bits
returns-then-x-2 c = simp (c.if-x.false, c.if-x-2.true)

pub returns : goal.returns
unfolding past_r of_bits
returns c = simp (c.if-x.false, c.if-x-2.false)
