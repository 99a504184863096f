-- `asking::options::next_operand` meets its contract. What is passed is an option with its number, so the words from i on are the words.
-- Assumes nothing.
use mathlib.Core.Path.{◌≡◌}
use Prim.Native.Nat.{◌-◌, ◌≤◌, min}
use lib.ListN.{length}
use Rattle.asking.specs.Options.{operands_from}
use Rattle.asking.proofs.options.next_operand.Given as goal

abbrev pub invariant-loop-w : goal.invariant-loop-w
invariant-loop-w l = (operands_from l.line l.at ≡ operands_from l.line l.i) × (min l.at (length l.line) ≤ min l.i (length l.line))

abbrev pub decreases-loop-w : goal.decreases-loop-w
decreases-loop-w l = length l.line - l.i
