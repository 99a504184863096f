-- `vectors::capitals::capitals_into` meets its contract. The bytes that are stored, and those that are left to store, are all of them. Assumes nothing.
use mathlib.Core.Path.{◌≡◌, refl, sym, ap, ◌∙◌}
use mathlib.Core.List.{List, [], ◌∷◌, ◌++◌, append_assoc, append-nil}
use Prim.Native.Nat.{ℕ, zero, suc, ◌+◌, ◌-◌, ◌≤◌, ◌<◌}
use native.Mathlib.Omega.{arith}
use native.Mathlib.Nat.{sub-zero}
use native.Mathlib.Numerals.{add-one}
use lib.ListN.{length, length-set, get_or, set, take}
use lib.Seq.{take-suc-set, take-length}
use Rattle.vectors.specs.Capitals.{capital, capitals_from}
use borrow.Author.Rules.{rules}
use Rattle.vectors.proofs.capitals.capitals_into.Goals as goal

capitals-one : (source : List ℕ) (k at : ℕ) → 0 < k → capitals_from source k at ≡ capital (get_or source at 0) ∷ capitals_from source (k - 1) (at + 1)
unfolding capitals_from
capitals-one source zero at h = absurd (omega arith)
capitals-one source (suc k) at h =
    let e : suc k - 1 ≡ k = omega arith in
    ap (λ (n : ℕ). capital (get_or source at 0) ∷ capitals_from source n (at + 1)) (sym e)

capitals-none : (source : List ℕ) (k at : ℕ) → k ≤ 0 → capitals_from source k at ≡ []
unfolding capitals_from
capitals-none source zero at h = refl
capitals-none source (suc k) at h = absurd (omega arith)

-- one byte more is stored, and one fewer left
stored_one : (source : List ℕ) (count i : ℕ) (s : List ℕ) (x : ℕ) → i < count → i < length s → x ≡ capital (get_or source i 0)
    → take i s ++ capitals_from source (count - i) i ≡ take (i + 1) (set s i x) ++ capitals_from source (count - (i + 1)) (i + 1)
stored_one source count i s x h k e =
    let f : take (i + 1) (set s i x) ≡ take i s ++ (x ∷ []) = rw add-one (take-suc-set s i x k) in
    let m : count - i - 1 ≡ count - (i + 1) = omega arith in
    let g : capitals_from source (count - i) i ≡ x ∷ capitals_from source (count - (i + 1)) (i + 1) = capitals-one source (count - i) i (omega arith) ∙ rw (e, m) in
    rw (f, g) (sym (append_assoc (take i s) (x ∷ []) (capitals_from source (count - (i + 1)) (i + 1))))

pub loop-i-init : goal.loop-i-init
loop-i-init c = (search rules, refl, rw sub-zero)

pub loop-i-preserved : goal.loop-i-preserved
loop-i-preserved c =
    let a = c.args in
    let l = c.loop-i in
    let x : c.capital-x.result ≡ capital (get_or a.source.now l.i 0) = c.capital-x.ensures ∙ ap capital c.byte_at.ensures in
    let k = c.loop-i-test.true in
    let h : l.i < length l.room = omega (arith, l.invariant.1, k) in (
      simp length-set (omega arith),
      simp length-set l.invariant.1,
      l.invariant.2 ∙ stored_one a.source.now (length a.room.now) l.i l.room c.capital-x.result k h x,
    )

pub returns : goal.returns
returns c =
    let a = c.args in
    let l = c.loop-i in
    let k : length a.room.now - l.i ≤ 0 = omega (arith, l.invariant.1, c.loop-i-test.false) in
    let z : l.i ≡ length l.room = omega (arith, l.invariant.0, l.invariant.1, c.loop-i-test.false) in
    sym (l.invariant.2 ∙ rw (capitals-none a.source.now (length a.room.now - l.i) l.i k, append-nil (take l.i l.room), z) (take-length l.room))
