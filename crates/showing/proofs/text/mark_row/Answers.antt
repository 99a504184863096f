-- `showing::text::mark_row` meets its contract. The row holds the first n bytes of what stands before the mark, and the others are ahead from i on.
-- Assumes nothing.
use Prim.Native.Nat.{ℕ, suc, ◌+◌, ◌-◌, ◌≤◌, ◌<◌, min}
use native.Mathlib.Omega.{arith}
use native.Mathlib.Numerals.{add-one}
use mathlib.Core.Path.{◌≡◌, refl, sym, ap, ◌∙◌}
use mathlib.Core.Bool.{Bool, true, false, cond}
use mathlib.Core.List.{List, [], ◌∷◌}
use lib.Dec.{eqb}
use lib.ListN.{length, get_or, drop_of_length-le}
use lib.Seq.{take-nil}
use Rattle.io.proofs.Counting.{prefix_len_of_le}
use Rattle.symbols.proofs.Laws.{peel}
use Rattle.showing.specs.Characters.{inside}
use Rattle.showing.specs.Pages.{under_byte, under_in, marks_from}
use mathlib.Core.Logic.{inl, inr}
use Rattle.showing.proofs.Lines.{of_two}
use Rattle.showing.proofs.Rows.{first, full, ended, passed, put}
use borrow.Author.Rules.{rules}
use Rattle.showing.proofs.text.mark_row.Goals as goal
use Rattle.showing.proofs.text.mark_row.Goals.{then-b-ne0, else-b-ne0}

-- ---- what stands before the mark from i on, by what stands there from i + 1 on
stands : (b : ℕ) → under_byte b ≡ 0 → ⊥
unfolding under_byte
stands b = go (eqb b 9)
  where
    go : (t : Bool) → ◌≡◌ {A = ℕ} (cond t 9 32) 0 → ⊥
    go true e = omega arith
    go false e = omega arith

one : (t : Bool) (x r : ℕ) (l : List ℕ) → r ≡ cond t 0 x → (r ≡ 0 → ⊥) → cond t l (x ∷ l) ≡ r ∷ l
one true x r l e n = absurd (n e)
one false x r l e n = ap (λ y. y ∷ l) (sym e)

nothing : (t : Bool) (x r : ℕ) (l : List ℕ) → (x ≡ 0 → ⊥) → r ≡ cond t 0 x → r ≡ 0 → cond t l (x ∷ l) ≡ l
nothing true x r l p e n = refl
nothing false x r l p e n = absurd (p (sym e ∙ n))

module _ (s : List ℕ) (i place : ℕ) where
  marks-stop : place ≤ i → marks_from s i place ≡ []
  unfolding marks_from under_in
  marks-stop h = let z : place - i ≡ 0 = omega arith in rw z

  marks-end : length s ≤ i → marks_from s i place ≡ []
  unfolding marks_from under_in
  marks-end h = rw (drop_of_length-le s h, take-nil)

  marks-behind : min place (length s) ≤ i → marks_from s i place ≡ []
  marks-behind h = elim (of_two place (length s) i h) [ inl k ↦ marks-stop k | inr k ↦ marks-end k ]

  module _ (h : i < length s) (k : i < place) where
    next : marks_from s i place ≡ cond (inside s i) (marks_from s (i + 1) place) (under_byte (get_or s i 0) ∷ marks_from s (i + 1) place)
    unfolding marks_from under_in
    next = let z : place - i ≡ suc (place - (i + 1)) = omega arith in rw (z, peel s i h, add-one i)

    marks-on : (r : ℕ) → r ≡ cond (inside s i) 0 (under_byte (get_or s i 0)) → (r ≡ 0 → ⊥) → marks_from s i place ≡ r ∷ marks_from s (i + 1) place
    marks-on r e n = next ∙ one (inside s i) (under_byte (get_or s i 0)) r (marks_from s (i + 1) place) e n

    marks-pass : (r : ℕ) → r ≡ cond (inside s i) 0 (under_byte (get_or s i 0)) → r ≡ 0 → marks_from s i place ≡ marks_from s (i + 1) place
    marks-pass r e n = next ∙ nothing (inside s i) (under_byte (get_or s i 0)) r (marks_from s (i + 1) place) (stands (get_or s i 0)) e n

pub loop-i-init : goal.loop-i-init
loop-i-init c = first _ _

pub returns-then-row-n : goal.returns-then-row-n
returns-then-row-n c = record { fills = full c.loop-i.invariant c.if-row-n.true; prefix_len = prefix_len_of_le _ _ (search rules) }

pub loop-i-preserved : goal.loop-i-preserved
loop-i-preserved c =
    let a = c.args in
    let l = c.loop-i in
    let least = c.min-i-end.ensures in
    let h : l.i < length a.source.now = omega (arith, least, c.loop-i-test.true) in
    let k : l.i < a.place = omega (arith, least, c.loop-i-test.true) in
    let u = c.under-b in
    elim c.if-b-ne0.branch [
      | then-b-ne0 w ↦ rw (w.row-is, w.n-is) (put l.invariant u.result _ (marks-on a.source.now l.i a.place h k u.result u.ensures w.if-b-ne0.true) c.if-row-n.false)
      | else-b-ne0 w ↦ rw (w.row-is, w.n-is) (passed l.invariant _ (marks-pass a.source.now l.i a.place h k u.result u.ensures w.if-b-ne0.false))
    ]

pub returns : goal.returns
returns c =
    let a = c.args in
    let l = c.loop-i in
    record { fills = ended l.invariant (marks-behind a.source.now l.i a.place (omega (arith, c.min-i-end.ensures, c.loop-i-test.false))); prefix_len = prefix_len_of_le _ _ (search rules) }
