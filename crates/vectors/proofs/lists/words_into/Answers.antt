-- `vectors::lists::words_into` meets its contract. The numbers that are stored, and those that are left to store, are all of them. Assumes nothing.
use mathlib.Core.Path.{◌≡◌, refl, sym, ap, ◌∙◌}
use mathlib.Core.List.{List, [], ◌∷◌, ◌++◌, append_assoc, append-nil}
use Prim.Native.Nat.{ℕ, zero, suc, ◌+◌, ◌-◌, ◌≤◌, ◌<◌}
use native.Mathlib.Omega.{arith}
use native.Mathlib.Nat.{sub-zero}
use native.Mathlib.Numerals.{add-one}
use lib.IntN.{ℤ, pos}
use lib.ListN.{length, length-set, get_or, set, take}
use lib.Seq.{take-suc-set, take-length}
use mir.Syntax.{w64}
use mir.Val.{to_z, of_z}
use mir.Facts.{to_z-of_z}
use Rattle.vectors.specs.Sent.{words_from}
use borrow.Author.Rules.{rules}
use Rattle.vectors.proofs.lists.words_into.Goals as goal

words-one : (table : List ℕ) (k at : ℕ) → 0 < k → words_from table k at ≡ pos (get_or table at 0) ∷ words_from table (k - 1) (at + 1)
unfolding words_from
words-one table zero at h = absurd (omega arith)
words-one table (suc k) at h =
    let e : suc k - 1 ≡ k = omega arith in
    ap (λ (n : ℕ). pos (get_or table at 0) ∷ words_from table n (at + 1)) (sym e)

words-none : (table : List ℕ) (k at : ℕ) → k ≤ 0 → words_from table k at ≡ []
unfolding words_from
words-none table zero at h = refl
words-none table (suc k) at h = absurd (omega arith)

-- one number more is stored, and one fewer left
stored_one : (table : List ℕ) (count i : ℕ) (s : List ℤ) (x : ℤ) → i < count → i < length s → x ≡ pos (get_or table i 0)
    → take i s ++ words_from table (count - i) i ≡ take (i + 1) (set s i x) ++ words_from table (count - (i + 1)) (i + 1)
stored_one table count i s x h k e =
    let f : take (i + 1) (set s i x) ≡ take i s ++ (x ∷ []) = rw add-one (take-suc-set s i x k) in
    let m : count - i - 1 ≡ count - (i + 1) = omega arith in
    let g : words_from table (count - i) i ≡ x ∷ words_from table (count - (i + 1)) (i + 1) = words-one table (count - i) i (omega arith) ∙ rw (e, m) in
    rw (f, g) (sym (append_assoc (take i s) (x ∷ []) (words_from table (count - (i + 1)) (i + 1))))

pub loop-i-init : goal.loop-i-init
loop-i-init c = (search rules, refl, rw sub-zero)

pub loop-i-preserved : goal.loop-i-preserved
loop-i-preserved c =
    let a = c.args in
    let l = c.loop-i in
    let x : to_z w64 (of_z w64 c.as_number-x.result) ≡ pos (get_or a.table.now l.i 0) =
    to_z-of_z {w = w64} {z = c.as_number-x.result} (record { sfits = c.as_number-x.type_inv }) ∙ c.as_number-x.ensures ∙ ap pos c.word_at.ensures in
    let k = c.loop-i-test.true in
    let h : l.i < length l.list = omega (arith, l.invariant.1, k) in (
      simp length-set (omega arith),
      simp length-set l.invariant.1,
      l.invariant.2 ∙ stored_one a.table.now (length a.list.now) l.i l.list (to_z w64 (of_z w64 c.as_number-x.result)) k h x,
    )

pub returns : goal.returns
returns c =
    let a = c.args in
    let l = c.loop-i in
    let k : length a.list.now - l.i ≤ 0 = omega (arith, l.invariant.1, c.loop-i-test.false) in
    let z : l.i ≡ length l.list = omega (arith, l.invariant.0, l.invariant.1, c.loop-i-test.false) in
    sym (l.invariant.2 ∙ rw (words-none a.table.now (length a.list.now - l.i) l.i k, append-nil (take l.i l.list), z) (take-length l.list))
