-- `showing::text::spot_of` meets its contract. Line and start are those of the place that the loop has come to; behind the end they stay.
-- Assumes nothing.
use Prim.Native.Nat.{ℕ, suc, ◌+◌, ◌-◌, ◌≤◌}
use native.Mathlib.Omega.{arith}
use native.Mathlib.Numerals.{add-one}
use mathlib.Core.Path.{◌≡◌, refl, sym, ap, ◌∙◌}
use mathlib.Core.Logic.{◌⊎◌, inl, inr}
use mathlib.Core.List.{List}
use borrow.Author.Tests.{eq-eqb, ne_eqb}
use lib.ListN.{length, get_or}
use Rattle.showing.specs.Pages.{start_of, line_of, column_of}
use Rattle.showing.proofs.Lines.{start_behind, start_on, line_behind, line_on, start_within, lines_within, one_start, past_end, of_two}
use Rattle.showing.proofs.text.spot_of.Goals as goal
use Rattle.showing.proofs.text.spot_of.Goals.{then-source-i-eq10, else-source-i-eq10}

-- the loop has come to the place, or to the end of the source
left : (s : List ℕ) (end i : ℕ) → i ≤ end → (end ≤ i) ⊎ (length s ≤ i) → line_of s i ≡ line_of s end
left s end i h (inl k) = let e : i ≡ end = omega arith in ap (line_of s) e
left s end i h (inr k) = past_end s end i k h

pub loop-i-init : goal.loop-i-init
unfolding start_of line_of
loop-i-init c = (omega arith, refl, refl)

pub overflow_add-line : goal.overflow_add-line
overflow_add-line c =
    let l = c.loop-i in
    omega (arith, lines_within c.args.source.now l.i, l.invariant.2)

pub loop-i-preserved : goal.loop-i-preserved
loop-i-preserved c =
    let s = c.args.source.now in
    let l = c.loop-i in
    rw (add-one l.i) (elim c.if-source-i-eq10.branch [
      | then-source-i-eq10 w ↦
          let e = eq-eqb (get_or s l.i 0) 10 w.if-source-i-eq10.true in
          (omega arith, w.start-is ∙ add-one l.i ∙ sym (start_behind s l.i e), w.line-is ∙ add-one l.line ∙ ap suc l.invariant.2 ∙ sym (line_behind s l.i e))
      | else-source-i-eq10 w ↦
          let e = ne_eqb (get_or s l.i 0) 10 w.if-source-i-eq10.false in
          (omega arith, w.start-is ∙ l.invariant.1 ∙ sym (start_on s l.i e), w.line-is ∙ l.invariant.2 ∙ sym (line_on s l.i e))
    ])

pub overflow_sub-result : goal.overflow_sub-result
overflow_sub-result c =
    let l = c.loop-i in
    omega (arith, start_within c.args.source.now l.i, l.invariant.1)

pub returns : goal.returns
unfolding column_of
returns c =
    let s = c.args.source.now in
    let l = c.loop-i in
    let end = c.min-end.result in
    let line : l.line ≡ line_of s end = l.invariant.2 ∙ left s end l.i l.invariant.0 (of_two end (length s) l.i (omega (arith, c.min-i-end.ensures, c.loop-i-test.false))) in
    let start : l.start ≡ start_of s end = l.invariant.1 ∙ one_start s end l.i l.invariant.0 (sym l.invariant.2 ∙ line) in
    let cut = c.min-end.ensures in
    record { line = line ∙ ap (line_of s) cut; column = ap (λ k. end - k + 1) start ∙ ap (column_of s) cut; start = start ∙ ap (start_of s) cut; start_le_place = omega (arith, start_within s end) }
