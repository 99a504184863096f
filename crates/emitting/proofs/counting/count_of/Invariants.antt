-- `emitting::counting::count_of` meets its contract: the rows from here on count as many as all of them do, with those so far.
-- Assumes nothing.
use mathlib.Core.Path.{◌≡◌}
use Prim.Native.Nat.{◌*◌, ◌≤◌}
use lib.ListN.{drop}
use Rattle.names.specs.model.Rows.{fold_nodes}
use Rattle.emitting.specs.model.Layout.{counting}
use Rattle.emitting.proofs.counting.count_of.Given as goal

abbrev pub invariant-loop-words : goal.invariant-loop-words
invariant-loop-words l =
    (fold_nodes (counting l.scope l.sort) (drop (4 * l.words-index) l.rows) l.n ≡ fold_nodes (counting l.scope l.sort) l.rows 0) × (l.n ≤ l.words-index)
