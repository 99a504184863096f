-- `uses::walk`: the nodes that are left, folded from here, give the whole.
use mathlib.Core.Path.{◌≡◌}
use Prim.Native.Nat.{◌*◌}
use lib.ListN.{drop}
use Rattle.names.specs.model.Rows.{fold_nodes, use_node, uses_of}
use Rattle.names.specs.model.Arrays.{see_uses, UsesWithin}
use Rattle.names.proofs.uses.walk.Given as goal

abbrev pub invariant-loop-words : goal.invariant-loop-words
invariant-loop-words l = UsesWithin l.u l.words-index × (fold_nodes (use_node l.ids l.rows) (drop (4 * l.words-index) l.nodes) (see_uses l.u l.uses l.stack) ≡ uses_of l.ids l.rows l.nodes)
