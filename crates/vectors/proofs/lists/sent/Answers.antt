-- `vectors::lists::sent` meets its contract. The numbers are read one after the other; behind the listed ones the list is 0. Assumes nothing.
use Prim.Native.Nat.{ℕ, zero, suc, ◌≤◌, min}
use mathlib.Core.Path.{◌≡◌, refl, sym, ap, ◌∙◌}
use mathlib.Core.List.{List, ◌++◌}
use native.Mathlib.Omega.{arith}
use lib.IntN.{ℤ, pos}
use lib.ListN.{length, take, drop, length-append, length-drop, length-replicate}
use lib.Seq.{length-take-le}
use Rattle.vectors.specs.declared.texts.Numeral.{Numeral}
use Rattle.vectors.specs.declared.tally.Tally.{Tally}
use Rattle.vectors.specs.Listed.{number_at}
use Rattle.vectors.specs.Ended.{numbers}
use Rattle.vectors.specs.Sent.{ListTold, head_at, fresh_list, SentTold}
use Rattle.vectors.proofs.lists.sent.Goals as goal

fresh-long : {l : List ℤ} → l ≡ fresh_list → length l ≡ 70016
unfolding fresh_list
fresh-long e = ap length e ∙ length-replicate 70016 (pos 0)

length-numbers : (text : List ℕ) (k at : ℕ) → length (numbers text k at) ≡ k
unfolding numbers
length-numbers text zero at = refl
length-numbers text (suc k) at = ap suc (length-numbers text k (number_at text at).next)

-- the listed numbers, and zeros behind them
module _ (text : List ℕ) (at k : ℕ) (fresh l : List ℤ) (all : fresh ≡ fresh_list) (few : k ≤ 70016) (listed : l ≡ numbers text (length (take k fresh)) at) where
  first : l ≡ numbers text k at
  first = listed ∙ ap (λ (n : ℕ). numbers text n at) (length-take-le k fresh (omega (arith, fresh-long all)))

  all-long : length (l ++ drop k fresh) ≡ 70016
  all-long = omega (arith, length-append l (drop k fresh), length-drop k fresh, fresh-long all, ap length first, length-numbers text k at)

in-turn : (source text : List ℕ) (from : ℕ) (t r : Tally) (x y z v w : Numeral) (k n : ℕ) (fresh l : List ℤ)
    → x ≡ number_at text from
    → y ≡ number_at text x.next
    → z ≡ number_at text y.next
    → v ≡ number_at text z.next
    → w ≡ number_at text v.next
    → k ≡ min w.value 70016
    → n ≡ min v.value 70016
    → fresh ≡ fresh_list
    → l ≡ numbers text (length (take k fresh)) w.next
    → ListTold source (take n (l ++ drop k fresh)) x.value y.value z.value t r
    → SentTold source text from t r
unfolding head_at
in-turn source text from t r x y z v w k n fresh l e1 e2 e3 e4 e5 e6 e7 e8 e9 h =
    let f = first text w.next k fresh l e8 (omega arith) e9 in
    rw (f, e6, e7, e8, e5, e4, e3, e2, e1) at h

pub slice_bounds-numbers_into-end : goal.slice_bounds-numbers_into-end
slice_bounds-numbers_into-end c =
    let f = c.fresh_list-list in
    sym (length-take-le c.clipped-k.result f.result (omega (arith, c.clipped-k.ensures, fresh-long f.ensures)))

pub slice_bounds-list-end-2 : goal.slice_bounds-list-end-2
slice_bounds-list-end-2 c =
    let f = c.fresh_list-list in
    let k = c.clipped-k in
    let i = c.numbers_into in
    omega (arith, c.clipped-n.ensures, all-long c.args.text.now c.number_at-some.result.next k.result f.result i.new.list f.ensures (omega (arith, k.ensures)) i.ensures)

pub slice_bounds-told-end : goal.slice_bounds-told-end
slice_bounds-told-end c =
    let f = c.fresh_list-list in
    let k = c.clipped-k in
    let i = c.numbers_into in
    sym (length-take-le c.clipped-n.result _ (omega (arith, c.clipped-n.ensures, all-long c.args.text.now c.number_at-some.result.next k.result f.result i.new.list f.ensures (omega (arith, k.ensures)) i.ensures)))

pub returns : goal.returns
returns c =
    let a = c.args in
    let f = c.fresh_list-list in
    let k = c.clipped-k in
    let i = c.numbers_into in
    in-turn a.source.now a.text.now a.from a.t c.told.result c.number_at-kind.result c.number_at-number.result c.number_at-place.result c.number_at-all.result
    c.number_at-some.result k.result c.clipped-n.result f.result i.new.list c.number_at-kind.ensures.value c.number_at-number.ensures.value c.number_at-place.ensures.value
    c.number_at-all.ensures.value c.number_at-some.ensures.value k.ensures c.clipped-n.ensures f.ensures i.ensures c.told.ensures
