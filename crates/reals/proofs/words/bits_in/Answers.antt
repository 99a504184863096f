-- The exponent's field says which bits are a finite real's.
use Rattle.std.proofs.Common.{ne_eqb}
use Rattle.reals.proofs.Patterns.{no_bits, some_bits, number_bits}
use Rattle.reals.proofs.words.bits_in.Goals as goal

pub returns-then-b-eq2047 : goal.returns-then-b-eq2047
returns-then-b-eq2047 c = no_bits c.args.b c.if-b-eq2047.true

pub float_from_bits-result : goal.float_from_bits-result
float_from_bits-result c = number_bits c.args.b (ne_eqb _ _ c.if-b-eq2047.false)

pub returns : goal.returns
returns c = some_bits c.args.b (ne_eqb _ _ c.if-b-eq2047.false)
