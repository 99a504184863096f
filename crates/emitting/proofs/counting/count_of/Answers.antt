-- `emitting::counting::count_of` meets its contract: the rows from here on count as many as all of them do, with those so far.
-- Assumes nothing.
use mathlib.Core.Path.{refl, sym, ap, ◌∙◌}
use native.Mathlib.Omega.{arith}
use Prim.Native.Nat.{◌+◌, ◌*◌}
use lib.ListN.{drop}
use Rattle.names.specs.declared.Node.{Node}
use Rattle.names.specs.declared.Row.{Row}
use Rattle.names.specs.model.Rows.{fold_nodes}
use Rattle.names.proofs.RowLaws.{fold_chunk, fold_end}
use Rattle.emitting.specs.model.Layout.{counting, count_of}
use Rattle.emitting.proofs.counting.count_of.Goals as goal

as_node : Row → Node
as_node r = record { kind = r.kind; symbol = r.symbol; one = r.scope; two = r.sort }

pub loop-words-init : goal.loop-words-init
loop-words-init c = (refl, omega arith)

pub loop-words-preserved : goal.loop-words-preserved
unfolding counting as_node
loop-words-preserved c =
    let a = c.args in
    let l = c.loop-words in
    let f = counting a.scope a.sort in
    let k = c.as_chunks.ensures in
    (ap (fold_nodes f (drop (4 * (l.words-index + 1)) a.rows.now)) c.counted-n.ensures.value ∙ sym (fold_chunk f a.rows.now c.as_chunks.result.0.now l.words-index _ (as_node c.from.result) _ k.front c.loop-words-test.true k.front_len (ap as_node c.from.ensures)) ∙ l.invariant.0, omega (arith, c.counted-n.ensures.upper_bound, l.invariant.1))

pub returns : goal.returns
unfolding count_of
returns c =
    let l = c.loop-words in
    let n = c.as_chunks.ensures.front_len in
    record { value = sym (fold_end (counting c.args.scope c.args.sort) c.args.rows.now l.words-index l.n (omega (arith, n))) ∙ l.invariant.0; result_in_bounds = omega (arith, n, l.invariant.1) }
