-- `vectors::texts::third_line` meets its contract. The second line begins in the text or at its end; where it is a page's there is no third.
-- Assumes nothing.
use Prim.Native.Nat.{ℕ, suc, ◌+◌, ◌-◌, ◌≤◌}
use mathlib.Core.Path.{◌≡◌, ap, sym, ◌∙◌}
use mathlib.Core.Bool.{Bool, true, false, cond}
use mathlib.Core.List.{List, [], ◌∷◌}
use native.Mathlib.Omega.{arith}
use lib.Dec.{eqb}
use lib.ListN.{length, take, drop, length-drop}
use lib.Seq.{take_all}
use Rattle.vectors.specs.Listed.{second_line, page_at, third_line}
use Rattle.vectors.proofs.texts.third_line.Goals as goal

line-inside : (s : List ℕ) → second_line s ≤ length s
unfolding second_line
line-inside [] = omega arith
line-inside (b ∷ bs) = by (eqb b 10) (line-inside bs)
  where
    by : {n m : ℕ} (e : Bool) → n ≤ m → cond e 1 (n + 1) ≤ suc m
    by true h = omega arith
    by false h = omega arith

-- what is lent is the text from there on
module _ (s : List ℕ) (a b : ℕ) (first : a ≡ second_line s) (behind : b ≡ second_line (take (length s - a) (drop a s))) where
  rest : b ≡ second_line (drop a s)
  rest = behind ∙ ap second_line (take_all (length s - a) (drop a s) (omega (arith, length-drop a s)))

  third : page_at s (second_line s) ≡ false → a + b ≡ third_line s
  unfolding third_line
  third other = rw other (ap (λ (n : ℕ). a + n) rest ∙ ap (λ (n : ℕ). n + second_line (drop n s)) first)

  inside : a + b ≤ length s
  inside = omega (arith, rest, line-inside s, line-inside (drop a s), length-drop a s)

no_third : (s : List ℕ) → page_at s (second_line s) ≡ true → length s ≡ third_line s
unfolding third_line
no_third s paged = rw paged

-- whether the second line is a page's, as the test has told
told : (s : List ℕ) (a : ℕ) (x y : Bool) → a ≡ second_line s → x ≡ page_at s a → x ≡ y → page_at s (second_line s) ≡ y
told s a x y e f g = ap (page_at s) (sym e) ∙ sym f ∙ g

pub returns-then-page_at : goal.returns-then-page_at
returns-then-page_at c =
    let second = c.second_line-second in
    let text = c.args.text.now in
    no_third text (told text second.result c.page_at.result true second.ensures c.page_at.ensures c.if-page_at.true)

pub slice_bounds-second_line-count : goal.slice_bounds-second_line-count
slice_bounds-second_line-count c = omega (arith, line-inside c.args.text.now, c.second_line-second.ensures)

pub slice_bounds-second_line-start : goal.slice_bounds-second_line-start
slice_bounds-second_line-start c = omega (arith, line-inside c.args.text.now, c.second_line-second.ensures)

pub overflow_add-result : goal.overflow_add-result
overflow_add-result c =
    let second = c.second_line-second in
    omega (arith, c.well_formed.0, inside c.args.text.now second.result c.second_line.result second.ensures c.second_line.ensures)

pub returns : goal.returns
returns c =
    let text = c.args.text.now in
    let second = c.second_line-second in
    let paged = c.page_at in
    third text second.result c.second_line.result second.ensures c.second_line.ensures (told text second.result paged.result false second.ensures paged.ensures c.if-page_at.false)
