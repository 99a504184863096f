-- `walking::push`: the word written is the new top.
use native.Mathlib.Omega.{arith}
use Rattle.names.proofs.RowLaws.{opens_enter}
use Rattle.types.specs.model.Passes.{pushed, with_stack}
use Rattle.types.proofs.walking.push.Goals as goal

pub returns : goal.returns
unfolding pushed with_stack
returns c = λ u d b. rw (opens_enter c.args.t.depth c.args.stack.now c.args.sort (omega arith))
