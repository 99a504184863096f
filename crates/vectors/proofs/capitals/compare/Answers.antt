-- `vectors::capitals::compare` meets its contract. What the room holds in its first bytes is the source in capitals. Assumes nothing.
use Prim.Native.Nat.{ℕ, zero, suc, min, ◌+◌}
use mathlib.Core.Path.{◌≡◌, refl, sym, ap, ◌∙◌}
use mathlib.Core.List.{List, ◌++◌}
use native.Mathlib.Omega.{arith}
use lib.ListN.{length, take, drop, length-append, length-drop}
use lib.Seq.{length-take-le, take-append_seam}
use Rattle.vectors.specs.declared.tally.Tally.{Tally}
use Rattle.vectors.specs.Capitals.{capitals_from, in_capitals, TriedTold, CapitalsTold}
use Rattle.vectors.proofs.capitals.compare.Goals as goal

length-capitals : (source : List ℕ) (k at : ℕ) → length (capitals_from source k at) ≡ k
unfolding capitals_from
length-capitals source zero at = refl
length-capitals source (suc k) at = ap suc (length-capitals source k (at + 1))

-- n: how many bytes are turned; l: what the room holds in its first n bytes then
module _ (source fresh l : List ℕ) (n : ℕ) (long : 131072 ≡ length fresh) (few : n ≡ min (length source) 131072) (stored : l ≡ capitals_from source (length (take n fresh)) 0) where
  first : l ≡ capitals_from source n 0
  first = stored ∙ ap (λ (k : ℕ). capitals_from source k 0) (length-take-le n fresh (omega (arith, few, long)))

  as_many : length l ≡ n
  as_many = ap length first ∙ length-capitals source n 0

  all-long : length (l ++ drop n fresh) ≡ 131072
  all-long = omega (arith, length-append l (drop n fresh), length-drop n fresh, long, as_many, few)

  taken : take n (l ++ drop n fresh) ≡ in_capitals source
  taken =
      ap (λ (k : ℕ). take k (l ++ drop n fresh)) (sym as_many)
      ∙ take-append_seam l (drop n fresh)
      ∙ first
      ∙ ap (λ (k : ℕ). capitals_from source k 0) few

  told : (text : List ℕ) (t r : Tally) → TriedTold source (take n (l ++ drop n fresh)) text t r → CapitalsTold source text t r
  told text t r h = rw taken at h

pub slice_bounds-capitals_into-end : goal.slice_bounds-capitals_into-end
slice_bounds-capitals_into-end c =
    let n = c.clipped-n in
    let f = c.buffer-room in
    sym (length-take-le n.result f.result (omega (arith, n.ensures, f.ensures)))

pub slice_bounds-room-end-2 : goal.slice_bounds-room-end-2
slice_bounds-room-end-2 c =
    let a = c.args in
    let n = c.clipped-n in
    let f = c.buffer-room in
    let i = c.capitals_into in
    omega (arith, n.ensures, all-long a.source.now f.result i.new.room n.result f.ensures n.ensures i.ensures)

pub slice_bounds-tried-end : goal.slice_bounds-tried-end
slice_bounds-tried-end c =
    let a = c.args in
    let n = c.clipped-n in
    let f = c.buffer-room in
    let i = c.capitals_into in
    sym (length-take-le n.result _ (omega (arith, n.ensures, all-long a.source.now f.result i.new.room n.result f.ensures n.ensures i.ensures)))

pub returns : goal.returns
returns c =
    let a = c.args in
    let n = c.clipped-n in
    let f = c.buffer-room in
    let i = c.capitals_into in
    told a.source.now f.result i.new.room n.result f.ensures n.ensures i.ensures a.text.now a.t c.tried.result c.tried.ensures
