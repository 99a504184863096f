-- `types::walking::walk` meets its contract. The loop's invariant: there is room behind i nodes, and what the nodes from here on make of
-- what is known and marked is what all of them make of nothing.
use mathlib.Core.Path.{refl, sym, ap, subst, ◌∙◌}
use native.Mathlib.Omega.{arith}
use Prim.Native.Nat.{◌+◌, ◌*◌}
use lib.ListN.{length, drop}
use Rattle.names.specs.model.Rows.{fold_nodes, opens_of}
use Rattle.names.proofs.RowLaws.{fold_chunk, fold_end}
use Rattle.types.specs.model.Arrays.{see, calls_of, Within, CountsWithin}
use Rattle.types.specs.model.Passes.{State, fresh, Marked, marked_node, typed_of, marks_of}
use Rattle.types.proofs.Room.{node_in, within_up}
use Rattle.types.proofs.Stacks.{length_opens, marked_ap, length_mark, state_alone}
use Rattle.types.proofs.walking.walk.Goals as goal

pub loop-words-init : goal.loop-words-init
unfolding opens_of calls_of CountsWithin
loop-words-init c = (record { rows = omega arith; depth = omega arith; calls = omega arith; bodies = omega arith; counts = tt }, refl, refl)

pub mark-requires : goal.mark-requires
mark-requires c =
    let l = c.loop-words in
    let r = l.invariant.0.depth in
    let e = length_opens l.t.depth l.pending.sorts in
    let p = c.requires.0 in
    let h = c.loop-words-test.true in
    omega arith

pub node-t-requires : goal.node-t-requires
node-t-requires c =
    let l = c.loop-words in
    let p = c.requires.0 in
    let h = c.loop-words-test.true in
    (within_up l.words-index 8191 (see l.t c.args.uses.now l.pending.sorts l.pending.calls l.pending.bodies) (omega arith) l.invariant.0, c.requires.1)

pub loop-words-preserved : goal.loop-words-preserved
unfolding marked_node
loop-words-preserved c =
    let l = c.loop-words in
    let z = see l.t c.args.uses.now l.pending.sorts l.pending.calls l.pending.bodies in
    let n = c.from-n.result in
    let R = c.args.rows.now in
    let m : Marked = record { state = z; marks = l.marks } in
    let k = c.as_chunks.ensures in
    let i = l.words-index in (
      subst (Within (i + 1)) (sym c.node-t.ensures) (node_in R i z l.invariant.0 n.kind n.symbol.number n.one n.two),
      ap (fold_nodes (marked_node R) (drop (4 * (i + 1)) c.args.nodes.now)) (marked_ap c.node-t.ensures c.mark.ensures)
          ∙ sym (fold_chunk (marked_node R) c.args.nodes.now c.as_chunks.result.0.now i _ n m k.front c.loop-words-test.true k.front_len c.from-n.ensures)
          ∙ l.invariant.1,
      ap length c.mark.ensures ∙ length_mark n.kind (opens_of l.t.depth l.pending.sorts) l.marks ∙ l.invariant.2,
    )

pub shape_of-marks : goal.shape_of-marks
shape_of-marks c = c.loop-words.invariant.2

pub returns : goal.returns
unfolding typed_of marks_of
returns c =
    let l = c.loop-words in
    let R = c.args.rows.now in
    let w = c.args.nodes.now in
    let s : Marked = record { state = fresh c.args.uses.now; marks = c.args.marks.now } in
    let e = sym (fold_end (marked_node R) w l.words-index (record { state = see l.t c.args.uses.now l.pending.sorts l.pending.calls l.pending.bodies; marks = l.marks }) (omega (arith, c.as_chunks.ensures.front_len))) ∙ l.invariant.1 in
    record { value = ap (λ (m : Marked). m.state.least) e ∙ ap (λ (st : State). st.least) (state_alone R w s); marks_after = ap (λ (m : Marked). m.marks) e }
