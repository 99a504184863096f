-- A row at a time.
use Rattle.records.proofs.Signs.{last_row}
use Rattle.records.proofs.ranges.section_of.Goals as goal

pub returns-in_default : goal.returns-in_default
returns-in_default c = rw c.in-Record.is (last_row c.args.k c.in_default.in_default-own.rest.0.0.0.0.1 c.in_default.in_default-own.rest.0.0.0.1 c.in_default.in_default-own.rest.0.0.1 c.in_default.in_default-own.rest.0.1 c.in_default.in_default-own.rest.1)
