-- `names::meanings::number` meets its contract: the tests of its arms are those of the definition.
use borrow.Author.Tests.{lt-ltb, le-ltb}
use Rattle.names.specs.model.Rows.{meant_number}
use Rattle.names.proofs.meanings.number.Goals as goal

pub returns-in-Declared : goal.returns-in-Declared
unfolding meant_number
returns-in-Declared c = rw (c.in-Declared.is, lt-ltb _ _ c.if-d-lt8192.true)

pub returns-in-Given : goal.returns-in-Given
unfolding meant_number
returns-in-Given c = rw (c.in-Given.is, lt-ltb _ _ c.if-e-lt5.true)

pub returns-in_default : goal.returns-in_default
unfolding meant_number
returns-in_default c = rw (c.in-Declared.is, le-ltb _ _ c.if-d-lt8192.false)

pub returns-in_default-2 : goal.returns-in_default-2
unfolding meant_number
returns-in_default-2 c = rw (c.in-Given.is, le-ltb _ _ c.if-e-lt5.false)

pub returns-in_default-3 : goal.returns-in_default-3
unfolding meant_number
returns-in_default-3 c = rw c.in_default.is
