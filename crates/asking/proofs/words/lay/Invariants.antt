-- `asking::words::lay` meets its contract. The row begins with the text's first i bytes, what ends a word as zeros, and is as it was behind them.
-- Assumes nothing.
use Rattle.std.proofs.Common.{◌≡◌, ◌++◌, take, drop, map}
use Rattle.asking.specs.Words.{laid_as}
use Rattle.asking.proofs.words.lay.Given as goal

abbrev pub invariant-loop-i : goal.invariant-loop-i
invariant-loop-i l = l.row ≡ take l.i (map (laid_as l.list) l.text) ++ drop l.i l.initial.row
