-- `vectors::runs::supplied` meets its contract. The numbers are read one after the other; a part of the store or of the output is as long as it is said to be.
-- Assumes nothing.
use mathlib.Core.Path.{◌≡◌, sym}
use mathlib.Core.List.{List}
use Prim.Native.Nat.{ℕ, min}
use lib.IntN.{ℤ}
use lib.ListN.{length, take}
use lib.Seq.{length-take-le}
use Rattle.machine.specs.Machine.{job}
use Rattle.vectors.specs.declared.texts.Numeral.{Numeral}
use Rattle.vectors.specs.declared.tally.Tally.{Tally}
use Rattle.vectors.specs.Listed.{number_at}
use Rattle.vectors.specs.Ended.{numbers, after, after_exit, fresh_store, fresh_output, after_supplied}
use borrow.Author.Rules.{rules}
use Rattle.vectors.proofs.runs.supplied.Goals as goal

in-turn : (code text : List ℕ) (count from : ℕ) (t u : Tally) (next p q : ℕ) (input store output : List ℤ) (x y z : Numeral)
    → next ≡ after text count from
    → input ≡ numbers text count from
    → x ≡ number_at text next
    → y ≡ number_at text x.next
    → z ≡ number_at text y.next
    → p ≡ min x.value 16386
    → q ≡ min y.value 1536
    → store ≡ fresh_store
    → output ≡ fresh_output
    → u ≡ after_exit (job code input z.value (take p store) (take q output)) text z.next t
    → u ≡ after_supplied code (numbers text count from) text (after text count from) t
unfolding after_supplied
in-turn code text count from t u next p q input store output x y z e1 e2 e3 e4 e5 e6 e7 e8 e9 e10 = cc

pub slice_bounds-ran-end : goal.slice_bounds-ran-end
slice_bounds-ran-end c = sym (length-take-le _ _ (search rules))

pub slice_bounds-ran-end-2 : goal.slice_bounds-ran-end-2
slice_bounds-ran-end-2 c = sym (length-take-le _ _ (search rules))

pub returns : goal.returns
returns c =
    let a = c.args in
    in-turn a.code.now a.text.now (length a.input.now) a.from a.t c.ran.result c.inputs_at-next.result c.clipped-lent.result c.clipped-room.result c.inputs_at-next.new.input c.fresh_store-store.result c.fresh_output-output.result
    c.number_at-length.result c.number_at-space.result c.number_at-limit.result
    c.inputs_at-next.ensures.value c.inputs_at-next.ensures.input_after c.number_at-length.ensures.value c.number_at-space.ensures.value c.number_at-limit.ensures.value c.clipped-lent.ensures c.clipped-room.ensures c.fresh_store-store.ensures c.fresh_output-output.ensures c.ran.ensures
