-- `walking::note` notes a fault where the test says so.
use Rattle.types.specs.model.Passes.{noted}
use Rattle.types.proofs.walking.note.Goals as goal

pub returns-clause-b_value : goal.returns-clause-b_value
unfolding noted
returns-clause-b_value c = λ u s d b. rw c.noted_if.ensures
