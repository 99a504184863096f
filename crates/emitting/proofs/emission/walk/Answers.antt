-- `emitting::emission::walk` meets its contract. The loop's invariant: the counts behind i nodes are small, and what the nodes from here on make of
-- what is known is what all of them make of nothing.
use mathlib.Core.Path.{refl, sym, ap, subst, ◌∙◌}
use native.Mathlib.Omega.{arith}
use Prim.Native.Nat.{ℕ, ◌+◌, ◌*◌, ◌<◌}
use lib.ListN.{get_or, drop}
use Rattle.names.specs.model.Rows.{fold_nodes}
use Rattle.names.proofs.RowLaws.{fold_chunk, fold_end}
use Rattle.emitting.specs.model.Emission.{State, uses_in, place_at, put, placed_node}
use Rattle.emitting.specs.model.Arrays.{things_of, see, AllSlim, Small}
use Rattle.emitting.proofs.NextUses.{next_small}
use Rattle.emitting.proofs.Counters.{small_node, small_up, small_alone}
use Rattle.emitting.proofs.emission.walk.Goals as goal

pub loop-words-init : goal.loop-words-init
unfolding things_of AllSlim
loop-words-init c = (record { at = omega arith; slots = omega arith; level = omega arith; loops = omega arith; cells = omega arith; declared = omega arith; variable = omega arith; many = omega arith; things = tt }, refl, omega arith, refl)

pub node-t-requires : goal.node-t-requires
node-t-requires c =
    let l = c.loop-words in
    let n = c.as_chunks.ensures.front_len in
    let h = c.loop-words-test.true in
    let r = c.requires in
    small_alone l.t (uses_in c.args.known.now.rows.now c.args.uses.now) l.things l.code l.next.ahead l.next.entries (small_up (see c.loop-words.t (uses_in c.args.known.now.rows.now c.args.uses.now) c.loop-words.things c.loop-words.code c.loop-words.next.ahead c.loop-words.next.entries) l.invariant.0 (omega arith) (omega arith))

pub loop-words-preserved : goal.loop-words-preserved
loop-words-preserved c =
    let l = c.loop-words in
    let z = see c.loop-words.t (uses_in c.args.known.now.rows.now c.args.uses.now) c.loop-words.things c.loop-words.code c.loop-words.next.ahead c.loop-words.next.entries in
    let w = c.args.nodes.now in
    let i = l.words-index in
    let m = c.as_chunks.ensures in
    let f = m.front_len in
    let h = c.loop-words-test.true in
    let n = c.from.result in
    let e = c.node-t.ensures in
    let k = c.node-t.auto in
    let x = n.symbol.number in
    let p : place_at c.args.known.now.places.now x < 65536 = omega arith in
    let u : (j : ℕ) → get_or c.args.uses.now j 0 < 65536 = λ j. omega (arith, c.type_inv.uses j) in
    let v : n.one < 65536 = omega (arith, c.from.type_inv) in
    let z₁ = next_small c.args.known.now.rows.now c.args.uses.now l.t.uses u in
    let s = small_node c.args.known.now.values.now c.args.known.now.layout.now c.args.known.now.ahead.now c.args.known.now.entries.now z l.invariant.0 c.args.known.now.rows.now c.args.known.now.marks.now (omega arith) n.kind x (place_at c.args.known.now.places.now x) n.one n.two p v z₁.0 z₁.1 in (
      subst (Small (65536 + 10 * (i + 1)) (i + 1)) (sym e) (small_up _ s (omega arith) (omega arith)),
      ap (fold_nodes (placed_node c.args.known.now.values.now c.args.known.now.layout.now c.args.known.now.ahead.now c.args.known.now.entries.now c.args.known.now.rows.now c.args.known.now.marks.now (place_at c.args.known.now.places.now)) (drop (4 * (i + 1)) w)) e ∙ sym (fold_chunk (placed_node c.args.known.now.values.now c.args.known.now.layout.now c.args.known.now.ahead.now c.args.known.now.entries.now c.args.known.now.rows.now c.args.known.now.marks.now (place_at c.args.known.now.places.now)) w c.as_chunks.result.0.now i _ n z m.front h f c.from.ensures) ∙ l.invariant.1,
      omega arith,
      k.code ∙ l.invariant.3,
    )

pub returns : goal.returns
returns c =
    let l = c.loop-words in
    let w = c.args.nodes.now in
    let z = see c.loop-words.t (uses_in c.args.known.now.rows.now c.args.uses.now) c.loop-words.things c.loop-words.code c.loop-words.next.ahead c.loop-words.next.entries in
    let e = c.put.ensures.en_after (uses_in c.args.known.now.rows.now c.args.uses.now) l.things l.next.ahead l.next.entries ∙ ap (put 1 0 0) (sym (fold_end (placed_node c.args.known.now.values.now c.args.known.now.layout.now c.args.known.now.ahead.now c.args.known.now.entries.now c.args.known.now.rows.now c.args.known.now.marks.now (place_at c.args.known.now.places.now)) w l.words-index z (omega (arith, c.as_chunks.ensures.front_len))) ∙ l.invariant.1) in
    record { code_after = ap (λ (st : State). st.code) e; ahead_after = ap (λ (st : State). st.ahead) e; entries_after = ap (λ (st : State). st.entries) e }
