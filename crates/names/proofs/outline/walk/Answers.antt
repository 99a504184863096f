-- `names::outline::walk` meets its contract: the nodes that are left, folded from here, give the whole.
use mathlib.Core.Path.{refl, sym, ap, ◌∙◌}
use Prim.Native.Nat.{◌+◌, ◌*◌}
use native.Mathlib.Omega.{arith}
use lib.ListN.{drop}
use Rattle.names.specs.model.Rows.{opens_of, fold_nodes, outline_node, outline_of}
use Rattle.names.proofs.RowLaws.{fold_chunk, fold_end}
use Rattle.names.proofs.outline.walk.Goals as goal

pub loop-words-init : goal.loop-words-init
unfolding opens_of outline_of
loop-words-init c = (refl, record { rows = omega arith; around = record { deep = omega arith; many = omega arith } })

pub loop-words-preserved : goal.loop-words-preserved
loop-words-preserved c =
    let a = c.args in
    let l = c.loop-words in
    let k = c.as_chunks.ensures in (
      ap (fold_nodes (outline_node a.ids.now) (drop (4 * (l.words-index + 1)) a.nodes.now)) (c.node-o.ensures.by_index c.from.result.two)
          ∙ sym (fold_chunk (outline_node a.ids.now) a.nodes.now c.as_chunks.result.0.now l.words-index _ c.from.result _ k.front c.loop-words-test.true k.front_len c.from.ensures)
          ∙ l.invariant.0,
      c.node-o.ensures.by_index_2 l.words-index l.invariant.1,
    )

pub returns-clause-stack_after : goal.returns-clause-stack_after
returns-clause-stack_after c =
    let l = c.loop-words in
    sym (fold_end (outline_node c.args.ids.now) c.args.nodes.now l.words-index _ (omega (arith, c.as_chunks.ensures.front_len))) ∙ l.invariant.0
