-- `asking::sorts::first` meets its contract. No word that is passed is of the sort, so those from i on are those.
-- Assumes nothing.
use mathlib.Core.Path.{refl, sym, ◌∙◌}
use Prim.Native.Nat.{◌<◌}
use native.Mathlib.Omega.{arith}
use Rattle.asking.proofs.Lines.{word_end, none_found, found_here, found_later}
use Rattle.asking.proofs.sorts.first.Goals as goal

pub loop-sort-init : goal.loop-sort-init
loop-sort-init c = (refl, omega arith)

pub returns-then-a-b : goal.returns-then-a-b
returns-then-a-b c =
    let a = c.args in
    let l = c.loop-sort in
    let w = c.word_from-w.result in
    let h = c.word_from-w.ensures in
    record {
      none = λ k. l.invariant.0 ∙ none_found a.sort a.arg.now a.line.now l.i w h k;
      end = word_end a.line.now l.i w h;
      first = λ k. absurd (omega (arith, k, c.if-a-b.true));
      onward = omega (arith, h.onward, l.invariant.1);
      ordered = h.ordered;
      inside = h.inside;
    }

pub is_of-requires : goal.is_of-requires
is_of-requires c = (c.word_from-w.ensures.ordered, c.word_from-w.ensures.inside)

pub returns-then-is_of : goal.returns-then-is_of
returns-then-is_of c =
    let a = c.args in
    let l = c.loop-sort in
    let w = c.word_from-w.result in
    let h = c.word_from-w.ensures in
    let n = c.if-a-b.false in
    record {
      none = λ k. absurd (n k);
      end = λ k. absurd (n k);
      first = λ k. l.invariant.0 ∙ found_here a.sort a.arg.now a.line.now l.i w h k (sym c.is_of.ensures ∙ c.if-is_of.true);
      onward = omega (arith, h.onward, l.invariant.1);
      ordered = h.ordered;
      inside = h.inside;
    }

pub loop-sort-smaller : goal.loop-sort-smaller
loop-sort-smaller c =
    let h = c.word_from-w.ensures in
    let n = c.if-a-b.false in
    omega (arith, h.onward, h.ordered, h.inside)

pub loop-sort-preserved : goal.loop-sort-preserved
loop-sort-preserved c =
    let a = c.args in
    let l = c.loop-sort in
    let w = c.word_from-w.result in
    let h = c.word_from-w.ensures in
    let n = c.if-a-b.false in
    let k : w.from < w.to = omega (arith, h.ordered) in
    (l.invariant.0 ∙ found_later a.sort a.arg.now a.line.now l.i w h k (sym c.is_of.ensures ∙ c.if-is_of.false), omega (arith, l.invariant.1, h.onward, h.ordered, h.inside))
