-- `vectors::runs::listed` meets its contract. A part of the input is as long as it is said to be.
-- Assumes nothing.
use mathlib.Core.Path.{◌≡◌, sym}
use mathlib.Core.List.{List}
use Prim.Native.Nat.{ℕ, min}
use lib.ListN.{length, take}
use lib.Seq.{length-take-le}
use Rattle.vectors.specs.declared.texts.Numeral.{Numeral}
use Rattle.vectors.specs.declared.tally.Tally.{Tally}
use Rattle.vectors.specs.Listed.{number_at}
use Rattle.vectors.specs.Ended.{numbers, after, after_supplied, after_listed}
use borrow.Author.Rules.{rules}
use Rattle.vectors.proofs.runs.listed.Goals as goal

in-turn : (code text : List ℕ) (from : ℕ) (t u : Tally) (n : Numeral) (k l : ℕ)
    → n ≡ number_at text from
    → k ≡ min n.value 128
    → l ≡ k
    → u ≡ after_supplied code (numbers text l n.next) text (after text l n.next) t
    → u ≡ after_listed code text from t
unfolding after_listed
in-turn code text from t u n k l e1 e2 e3 e4 = cc

pub slice_bounds-supplied-end : goal.slice_bounds-supplied-end
slice_bounds-supplied-end c = sym (length-take-le _ _ (search rules))

pub returns : goal.returns
returns c =
    let a = c.args in
    in-turn a.code.now a.text.now a.from a.t c.supplied.result c.number_at-count.result c.clipped-inputs.result (length (take c.clipped-inputs.result c.fresh_input-input.result))
    c.number_at-count.ensures.value c.clipped-inputs.ensures (length-take-le c.clipped-inputs.result c.fresh_input-input.result (search rules)) c.supplied.ensures
