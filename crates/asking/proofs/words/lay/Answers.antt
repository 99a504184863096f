-- `asking::words::lay` meets its contract. The row begins with the text's first i bytes, what ends a word as zeros, and is as it was behind them.
-- Assumes nothing.
use Rattle.std.proofs.Common.{◌≡◌, ◌++◌, ℕ, List, sym, ap, ◌∙◌, arith, le_antisymm, get_or, set, take, drop, map}
use lib.Seq.{length-take-le}
use Rattle.asking.specs.Words.{laid_as}
use Rattle.asking.proofs.Lines.{row_more}
use Rattle.asking.proofs.words.lay.Goals as goal

pub loop-i-preserved : goal.loop-i-preserved
loop-i-preserved c =
    let l = c.loop-i in
    let s = c.args.text.now in
    let k = c.args.list in
    ap (λ (v : ℕ). set l.row l.i v) c.laid.ensures ∙ ap (λ (r : List ℕ). set r l.i (laid_as k (get_or s l.i 0))) l.invariant
    ∙ row_more (laid_as k) s c.args.row.now l.i (omega (arith, c.min-n.ensures)) (omega (arith, c.min-n.ensures))

pub returns : goal.returns
returns c =
    let l = c.loop-i in
    let m = map (laid_as c.args.list) c.args.text.now in
    let e : l.i ≡ c.min-n.result = le_antisymm l.auto.i-end c.loop-i-test.false in
    record {
      many = c.min-n.ensures;
      holds = l.invariant ∙ ap (λ (i : ℕ). take i m ++ drop i c.args.row.now) e;
      inside = omega (arith, c.min-n.ensures, l.auto.row);
      counts = sym (length-take-le c.min-n.result l.row (omega (arith, c.min-n.ensures, l.auto.row)));
      kept = l.auto.row;
    }
