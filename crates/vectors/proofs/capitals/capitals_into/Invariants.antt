-- `vectors::capitals::capitals_into` meets its contract. The bytes that are stored, and those that are left to store, are all of them. Assumes nothing.
use mathlib.Core.Path.{◌≡◌}
use mathlib.Core.List.{◌++◌}
use Prim.Native.Nat.{◌-◌, ◌≤◌}
use lib.ListN.{length, take}
use Rattle.vectors.specs.Capitals.{capitals_from}
use Rattle.vectors.proofs.capitals.capitals_into.Given as goal

abbrev pub invariant-loop-i : goal.invariant-loop-i
invariant-loop-i l =
    (l.i ≤ length l.room) × (length l.room ≡ length l.initial.room) × (capitals_from l.source (length l.initial.room) 0 ≡ take l.i l.room ++ capitals_from l.source (length l.initial.room - l.i) l.i)
