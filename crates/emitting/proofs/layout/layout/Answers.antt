-- `emitting::layout::layout` meets its contract: all words are zero where the pass begins.
-- Assumes nothing.
use mathlib.Core.Path.{ap, ◌∙◌}
use mathlib.Core.List.{List}
use Prim.Native.Nat.{ℕ}
use lib.ListN.{replicate}
use Rattle.names.specs.model.Rows.{fold_nodes}
use Rattle.emitting.specs.model.Layout.{lay_node, layout_of}
use Rattle.emitting.specs.model.Arrays.{unlaid_in}
use Rattle.emitting.proofs.layout.layout.Goals as goal

pub returns : goal.returns
unfolding layout_of
returns c = c.lay.ensures ∙ ap (λ (w : List ℕ). (fold_nodes (lay_node c.args.rows.now) c.args.nodes.now (unlaid_in w)).table) (c.clear.ensures ∙ ap (λ (n : ℕ). replicate n 0) c.clear-arg-1.given.0.1)
