-- `walking::walk`: the nodes that are left, folded from here, give the whole.
use mathlib.Core.Path.{◌≡◌}
use Prim.Native.Nat.{◌*◌}
use lib.ListN.{length, drop}
use Rattle.names.specs.model.Rows.{fold_nodes}
use Rattle.types.specs.model.Arrays.{see, Within}
use Rattle.types.specs.model.Passes.{fresh, marked_node}
use Rattle.types.proofs.walking.walk.Given as goal

abbrev pub invariant-loop-words : goal.invariant-loop-words
invariant-loop-words l =
    Within l.words-index (see l.t l.uses l.pending.sorts l.pending.calls l.pending.bodies)
    × (fold_nodes (marked_node l.rows) (drop (4 * l.words-index) l.nodes) (record { state = see l.t l.uses l.pending.sorts l.pending.calls l.pending.bodies; marks = l.marks }) ≡ fold_nodes (marked_node l.rows) l.nodes (record { state = fresh l.uses; marks = l.initial.marks }))
    × (length l.marks ≡ length l.initial.marks)
