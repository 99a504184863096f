-- `desk::status::of_taken` meets its contract. By the test.
-- Assumes nothing.
use Rattle.desk.specs.Status.{of_taken}
use Rattle.desk.proofs.status.of_taken.Goals as goal

pub returns-then-taken : goal.returns-then-taken
unfolding of_taken
returns-then-taken c = rw c.if-taken.true

pub returns-else-taken : goal.returns-else-taken
unfolding of_taken
returns-else-taken c = rw c.if-taken.false
