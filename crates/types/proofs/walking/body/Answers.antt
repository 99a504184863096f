-- `walking::body`: the row is the innermost open body.
use native.Mathlib.Omega.{arith}
use Rattle.names.proofs.RowLaws.{opens_enter}
use Rattle.types.specs.model.Passes.{with_rows, with_bodies}
use Rattle.types.proofs.walking.body.Goals as goal

pub returns : goal.returns
unfolding with_rows with_bodies
returns c = λ u s d. rw (opens_enter c.args.t.bodies c.args.bodies.now c.args.t.rows (omega arith))
