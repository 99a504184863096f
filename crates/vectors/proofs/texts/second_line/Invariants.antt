-- `vectors::texts::second_line` meets its contract. The bytes passed, and the place in the others, are the place in all of them.
-- Assumes nothing.
use mathlib.Core.Path.{◌≡◌}
use Prim.Native.Nat.{◌+◌, ◌≤◌}
use lib.ListN.{length, drop}
use Rattle.vectors.specs.Listed.{second_line}
use Rattle.vectors.proofs.texts.second_line.Given as goal

abbrev pub invariant-loop-i : goal.invariant-loop-i
invariant-loop-i l = (l.i ≤ length l.text) × (second_line l.text ≡ l.i + second_line (drop l.i l.text))
