-- `writing::put_uses`: the uses among the nodes that are left are yet to be written.
use mathlib.Core.Path.{sym, ap, ◌∙◌}
use native.Mathlib.Omega.{arith}
use lib.ListN.{drop}
use Rattle.names.specs.declared.Node.{Node}
use Rattle.names.specs.model.Rows.{is_use}
use Rattle.table.specs.model.Writing.{place_of}
use Rattle.table.proofs.Written.{none_yet, node_chunk, use_room, use_put, use_past, all_written, uses_end}
use Rattle.table.proofs.writing.put_uses.Goals as goal
use Rattle.table.proofs.writing.put_uses.Goals.{then-is_use, else-is_use}

pub loop-words-init : goal.loop-words-init
loop-words-init c = (omega arith, none_yet _ _ _)

pub put_use-requires : goal.put_use-requires
put_use-requires c =
    let args = c.args in
    let l = c.loop-words in
    let k = c.as_chunks.ensures in
    let e = node_chunk args.nodes.now c.as_chunks.result.0.now l.words-index _ k.front c.loop-words-test.true k.front_len c.from-n.result c.from-n.ensures in
    let t = ap (λ (n : Node). is_use n.kind) (sym e) ∙ sym c.is_use.ensures ∙ c.if-is_use.true in
    use_room (place_of args.places.now) args.rows.now args.nodes.now args.uses.now l.words-index l.u l.invariant.1 c.requires (omega (arith, k.front_len)) t

pub overflow_add-at : goal.overflow_add-at
overflow_add-at c =
    let args = c.args in
    let l = c.loop-words in
    let k = c.as_chunks.ensures in
    let e = node_chunk args.nodes.now c.as_chunks.result.0.now l.words-index _ k.front c.loop-words-test.true k.front_len c.from-n.result c.from-n.ensures in
    let t = ap (λ (n : Node). is_use n.kind) (sym e) ∙ sym c.is_use.ensures ∙ c.if-is_use.true in
    let r = use_room (place_of args.places.now) args.rows.now args.nodes.now args.uses.now l.words-index l.u l.invariant.1 c.requires (omega (arith, k.front_len)) t in
    omega (arith, l.invariant.1.wrote.size)

pub loop-words-preserved : goal.loop-words-preserved
loop-words-preserved c =
    let args = c.args in
    let l = c.loop-words in
    let k = c.as_chunks.ensures in
    let e = node_chunk args.nodes.now c.as_chunks.result.0.now l.words-index _ k.front c.loop-words-test.true k.front_len c.from-n.result c.from-n.ensures in
    let t = ap (λ (n : Node). is_use n.kind) (sym e) ∙ sym c.is_use.ensures in
    elim c.if-is_use.branch [
      | then-is_use w ↦ (omega (arith, w.u-is), use_put (place_of args.places.now) args.rows.now args.nodes.now args.uses.now l.words-index l.u c.if-is_use.u _ l.invariant.1 (omega (arith, k.front_len)) (t ∙ w.if-is_use.true) w.use_at.ensures (rw e at w.put_use.ensures) w.table-is w.at-is w.u-is)
      | else-is_use w ↦ (omega (arith, w.u-is), use_past (place_of args.places.now) args.rows.now args.nodes.now args.uses.now l.words-index l.u c.if-is_use.u l.invariant.1 (omega (arith, k.front_len)) (t ∙ w.if-is_use.false) w.table-is w.at-is w.u-is)
    ]

pub shape_of-table : goal.shape_of-table
shape_of-table c = c.loop-words.invariant.1.wrote.size

pub returns : goal.returns
returns c =
    let args = c.args in
    let h = all_written c.loop-words.invariant.1 (uses_end (place_of args.places.now) args.rows.now args.nodes.now (drop c.loop-words.u args.uses.now) c.loop-words.words-index (omega (arith, c.as_chunks.ensures.front_len))) in record { wrote = h.0; value = h.1 }
