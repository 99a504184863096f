-- `vectors::lists::numbers_into` meets its contract. The numbers that are stored, and those that are left to read, are all of them. Assumes nothing.
use mathlib.Core.Path.{◌≡◌}
use mathlib.Core.List.{◌++◌}
use Prim.Native.Nat.{◌-◌, ◌≤◌}
use lib.ListN.{length, take}
use Rattle.vectors.specs.Ended.{numbers}
use Rattle.vectors.proofs.lists.numbers_into.Given as goal

abbrev pub invariant-loop-i : goal.invariant-loop-i
invariant-loop-i l =
    (l.i ≤ length l.list) × (length l.list ≡ length l.initial.list) × (numbers l.text (length l.initial.list) l.from ≡ take l.i l.list ++ numbers l.text (length l.initial.list - l.i) l.at)
