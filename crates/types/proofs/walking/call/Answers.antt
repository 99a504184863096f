-- `types::walking::call` meets its contract: the call begun is the new head.
use native.Mathlib.Omega.{arith}
use Rattle.types.specs.model.Passes.{called_as, with_calls}
use Rattle.types.proofs.Stacks.{calls_put}
use Rattle.types.proofs.walking.call.Goals as goal

pub returns : goal.returns
unfolding called_as with_calls
returns c = λ u s b. rw (calls_put c.args.t.calls c.args.calls.now _ (omega arith))
