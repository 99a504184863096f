-- `emitting::calls::left_part` meets its contract: its word and its place are kept, and one left part more is counted.
-- Assumes nothing.
use mathlib.Core.Path.{ap}
use Prim.Native.Nat.{◌+◌}
use Rattle.emitting.specs.model.Emission.{State, with_lefts, pushed, with_open}
use Rattle.emitting.proofs.calls.left_part.Goals as goal

pub returns : goal.returns
unfolding with_lefts pushed with_open
returns c = λ vs ks es us co ah en. rw (c.cell_of-v.ensures.by_index vs ks es) at (ap (λ (z : State). with_lefts (z.lefts + 1) z) (c.push-r.ensures.en_after us co ah en))
