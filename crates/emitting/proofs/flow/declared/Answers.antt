-- `emitting::flow::declared` meets its contract: its address is known, and an activation more is around, with no for statement.
-- Assumes nothing.
use mathlib.Core.Path.{ap}
use Prim.Native.Nat.{◌+◌}
use lib.ListN.{set}
use Rattle.emitting.specs.model.Emission.{State, pushed, within, with_cell, with_entry, with_open, proceeding}
use Rattle.emitting.proofs.flow.declared.Goals as goal

pub returns : goal.returns
unfolding proceeding within pushed with_open with_cell with_entry
returns c =
    let w = set c.args.next_entries.now c.args.t.declared c.args.t.here.at in
    λ vs ly ks es us co ah. rw c.set_entry.ensures (ap (λ (z : State). within (z.level + 1) 0 z.cells (with_cell z)) (c.push-r.ensures.en_after us co ah w))
