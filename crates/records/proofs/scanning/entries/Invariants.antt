-- The invariant: the entries that are left, from here on, decide.
use Prim.Native.Nat.{◌-◌}
use mathlib.Core.Path.{◌≡◌}
use Rattle.records.specs.model.Scanning.{row_of, entries_at}
use Rattle.records.proofs.scanning.entries.Given as goal

abbrev pub invariant-loop : goal.invariant-loop
invariant-loop l = entries_at l.m (row_of l.s) l.words l.at ≡ entries_at (l.m - l.counter) (row_of l.s) l.words l.end
