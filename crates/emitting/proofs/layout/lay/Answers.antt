-- `emitting::layout::lay` meets its contract. The loop's invariant: behind i nodes the layout has spread no further than i, and what the nodes from
-- here on make of it is what all of them make of nothing.
use mathlib.Core.Path.{◌≡◌, refl, sym, ap, subst, ◌∙◌}
use native.Mathlib.Omega.{arith}
use Prim.Native.Nat.{◌+◌, ◌*◌}
use lib.ListN.{drop}
use Rattle.names.specs.model.Rows.{fold_nodes, opens_of}
use Rattle.names.proofs.RowLaws.{fold_chunk, fold_end}
use Rattle.emitting.specs.model.Layout.{Laying, lay_node}
use Rattle.emitting.specs.model.Arrays.{lain, AllWithin, Spread}
use Rattle.emitting.proofs.Spreading.{spread_node, spread_up}
use Rattle.emitting.proofs.layout.lay.Goals as goal

pub loop-words-init : goal.loop-words-init
unfolding opens_of AllWithin
loop-words-init c =
    let f = c.default-t.result in
    let p : f.sort ≡ 0 = omega (arith, c.default-t.ensures) in
    let q : f.level ≡ 0 = omega (arith, c.default-t.ensures) in
    let r : f.reach ≡ 0 = omega (arith, c.default-t.ensures) in
    let s : f.open ≡ 0 = omega (arith, c.default-t.ensures) in
    let u : f.declared ≡ 0 = omega (arith, c.default-t.ensures) in
    rw (p, q, r, s, u) (record { level = omega arith; reach = omega arith; open_scopes = omega arith; declared = omega arith; outside = tt }, refl, omega arith, refl)

pub lay_node-t-requires : goal.lay_node-t-requires
lay_node-t-requires c =
    let n = c.as_chunks.ensures.front_len in
    let h = c.loop-words-test.true in
    spread_up c.loop-words.words-index 8191 (lain c.loop-words.t c.loop-words.around c.loop-words.table) (omega arith) c.loop-words.invariant.0

pub loop-words-preserved : goal.loop-words-preserved
loop-words-preserved c =
    let l = c.loop-words in
    let z = lain l.t l.around l.table in
    let w = c.args.nodes.now in
    let i = l.words-index in
    let k = c.as_chunks.ensures in
    let h = c.loop-words-test.true in
    let m = k.front_len in
    let n = c.from.result in
    let e = c.lay_node-t.ensures n.symbol.number n.two in (
      subst (Spread (i + 1)) (sym e) (spread_node i z l.invariant.0 c.args.rows.now n.kind n.symbol.number n.one n.two),
      ap (fold_nodes (lay_node c.args.rows.now) (drop (4 * (i + 1)) w)) e ∙ sym (fold_chunk (lay_node c.args.rows.now) w c.as_chunks.result.0.now i _ n z k.front h m c.from.ensures) ∙ l.invariant.1,
      omega arith,
      c.lay_node-t.auto.table ∙ l.invariant.3,
    )

pub shape_of-table : goal.shape_of-table
shape_of-table c = c.loop-words.invariant.3

pub returns : goal.returns
returns c =
    let l = c.loop-words in
    let n = c.as_chunks.ensures.front_len in
    ap (λ (st : Laying). st.table) (sym (fold_end (lay_node c.args.rows.now) c.args.nodes.now l.words-index (lain l.t l.around l.table) (omega (arith, n))) ∙ l.invariant.1)
