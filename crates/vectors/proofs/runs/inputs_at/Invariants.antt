-- `vectors::runs::inputs_at` meets its contract. The numbers that are stored, and those that are left to read, are all of them.
-- Assumes nothing.
use mathlib.Core.Path.{◌≡◌}
use mathlib.Core.List.{◌++◌}
use Prim.Native.Nat.{◌-◌, ◌≤◌}
use lib.ListN.{length, take}
use Rattle.vectors.specs.Ended.{numbers, after}
use Rattle.vectors.proofs.runs.inputs_at.Given as goal

abbrev pub invariant-loop-i : goal.invariant-loop-i
invariant-loop-i l =
    (l.i ≤ length l.input)
    × (length l.input ≡ length l.initial.input)
    × (after l.text (length l.initial.input) l.from ≡ after l.text (length l.initial.input - l.i) l.at)
    × (numbers l.text (length l.initial.input) l.from ≡ take l.i l.input ++ numbers l.text (length l.initial.input - l.i) l.at)
