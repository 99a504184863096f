-- `names::outline::walk` meets its contract: the nodes that are left, folded from here, give the whole.
use mathlib.Core.Path.{◌≡◌}
use Prim.Native.Nat.{◌*◌}
use lib.ListN.{drop}
use Rattle.names.specs.model.Rows.{fold_nodes, outline_node, outline_of}
use Rattle.names.specs.model.Arrays.{see_outline, OutlineWithin}
use Rattle.names.proofs.outline.walk.Given as goal

abbrev pub invariant-loop-words : goal.invariant-loop-words
invariant-loop-words l =
    (fold_nodes (outline_node l.ids) (drop (4 * l.words-index) l.nodes) (see_outline l.o l.rows l.stack) ≡ outline_of l.ids l.nodes) × OutlineWithin l.o l.words-index
