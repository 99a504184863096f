-- `vectors::lists::words_into` meets its contract. The numbers that are stored, and those that are left to store, are all of them. Assumes nothing.
use mathlib.Core.Path.{◌≡◌}
use mathlib.Core.List.{◌++◌}
use Prim.Native.Nat.{◌-◌, ◌≤◌}
use lib.ListN.{length, take}
use Rattle.vectors.specs.Sent.{words_from}
use Rattle.vectors.proofs.lists.words_into.Given as goal

abbrev pub invariant-loop-i : goal.invariant-loop-i
invariant-loop-i l =
    (l.i ≤ length l.list) × (length l.list ≡ length l.initial.list) × (words_from l.table (length l.initial.list) 0 ≡ take l.i l.list ++ words_from l.table (length l.initial.list - l.i) l.i)
