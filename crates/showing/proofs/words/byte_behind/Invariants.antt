-- `showing::words::byte_behind` meets its contract. The name at i, with the blanks behind it, reaches as far as that at `at`.
-- Assumes nothing.
use Prim.Native.Nat.{◌+◌, ◌-◌}
use mathlib.Core.Path.{◌≡◌}
use lib.ListN.{length, drop}
use Rattle.symbols.specs.Names.{in_name, reach}
use Rattle.showing.proofs.words.byte_behind.Given as goal

abbrev pub invariant-loop-i : goal.invariant-loop-i
invariant-loop-i l = l.at + reach in_name (drop l.at l.source) ≡ l.i + reach in_name (drop l.i l.source)

abbrev pub decreases-loop-i : goal.decreases-loop-i
decreases-loop-i l = length l.source - l.i
