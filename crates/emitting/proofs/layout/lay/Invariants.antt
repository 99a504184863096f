-- `emitting::layout::lay` meets its contract. The loop's invariant: behind i nodes the layout has spread no further than i, and what the nodes from
-- here on make of it is what all of them make of nothing.
use mathlib.Core.Path.{◌≡◌}
use Prim.Native.Nat.{◌*◌, ◌≤◌}
use lib.ListN.{length, drop}
use Rattle.names.specs.model.Rows.{fold_nodes}
use Rattle.emitting.specs.model.Layout.{lay_node}
use Rattle.emitting.specs.model.Arrays.{lain, unlaid_in, Spread}
use Rattle.emitting.proofs.layout.lay.Given as goal

abbrev pub invariant-loop-words : goal.invariant-loop-words
invariant-loop-words l =
    Spread l.words-index (lain l.t l.around l.table)
    × (fold_nodes (lay_node l.rows) (drop (4 * l.words-index) l.nodes) (lain l.t l.around l.table) ≡ fold_nodes (lay_node l.rows) l.nodes (unlaid_in l.initial.table))
    × (4 * l.words-index ≤ length l.nodes)
    × (length l.table ≡ length l.initial.table)
