-- `vectors::twos::schemes` meets its contract.
-- Assumes nothing.
use Rattle.vectors.specs.Twos.{too_few, enough}
use Rattle.vectors.proofs.twos.schemes.Goals as goal

pub returns-then-lent-lt32768 : goal.returns-then-lent-lt32768
returns-then-lent-lt32768 c = too_few c.if-lent-lt32768.true

pub returns : goal.returns
returns c = enough c.if-lent-lt32768.false c.scheme-one.ensures c.scheme.ensures
