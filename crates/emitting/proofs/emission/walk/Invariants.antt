-- `emitting::emission::walk` meets its contract. The loop's invariant: the counts behind i nodes are small, and what the nodes from here on make of
-- what is known is what all of them make of nothing.
use mathlib.Core.Path.{◌≡◌}
use Prim.Native.Nat.{◌+◌, ◌*◌, ◌≤◌}
use lib.ListN.{length, drop}
use Rattle.names.specs.model.Rows.{fold_nodes}
use Rattle.emitting.specs.model.Emission.{uses_in, place_at, placed_node}
use Rattle.emitting.specs.model.Arrays.{see, Small, fresh_in}
use Rattle.emitting.proofs.emission.walk.Given as goal

abbrev pub invariant-loop-words : goal.invariant-loop-words
invariant-loop-words l =
    Small (65536 + 10 * l.words-index) l.words-index (see l.t (uses_in l.known.rows.now l.uses) l.things l.code l.next.ahead l.next.entries)
    × (fold_nodes (placed_node l.known.values.now l.known.layout.now l.known.ahead.now l.known.entries.now l.known.rows.now l.known.marks.now (place_at l.known.places.now)) (drop (4 * l.words-index) l.nodes) (see l.t (uses_in l.known.rows.now l.uses) l.things l.code l.next.ahead l.next.entries) ≡ fold_nodes (placed_node l.known.values.now l.known.layout.now l.known.ahead.now l.known.entries.now l.known.rows.now l.known.marks.now (place_at l.known.places.now)) l.nodes (fresh_in (uses_in l.known.rows.now l.uses) l.initial.code l.initial.next.ahead l.initial.next.entries))
    × (4 * l.words-index ≤ length l.nodes)
    × (length l.code ≡ length l.initial.code)
