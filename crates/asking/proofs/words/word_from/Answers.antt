-- `asking::words::word_from` meets its contract. The zeros and the bytes before the next zero are no more than the line has left.
-- Assumes nothing.
use native.Mathlib.Omega.{arith}
use lib.ListN.{length, drop, length-drop}
use Rattle.symbols.proofs.Laws.{before_end}
use Rattle.symbols.proofs.Laws.{before_most}
use Rattle.asking.proofs.Lines.{zeros_most, zeros_end}
use Rattle.asking.proofs.words.word_from.Goals as goal

pub returns-then-line-at : goal.returns-then-line-at
returns-then-line-at c =
    let s = c.args.line.now in
    record {
      starts = omega (arith, zeros_end s c.args.at c.if-line-at.true);
      ends = omega (arith, before_end s (length s) 0 (omega arith));
      onward = omega arith;
      ordered = omega arith;
      inside = omega arith;
    }

pub returns : goal.returns
returns c =
    let s = c.args.line.now in
    let f = c.zeros_end-from.result in
    let e = c.zeros_end-from.ensures in
    let z = zeros_most (drop c.args.at s) in
    let n = length-drop c.args.at s in
    let b = before_most 0 (drop f s) in
    let m = length-drop f s in
    record {
      starts = omega arith;
      ends = c.find-to.ensures;
      onward = omega arith;
      ordered = omega (arith, c.find-to.ensures);
      inside = omega (arith, c.find-to.ensures);
    }
