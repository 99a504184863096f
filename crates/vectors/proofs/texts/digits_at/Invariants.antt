-- `vectors::texts::digits_at` meets its contract. The value so far and the digits from i on make the number, modulo 10,000,000,000, and the digits passed
-- are its digits. Assumes nothing.
use mathlib.Core.Path.{◌≡◌}
use Prim.Native.Nat.{◌+◌, ◌-◌, ◌%◌, ◌<◌}
use lib.ListN.{length, drop}
use Rattle.symbols.specs.Names.{value_from}
use Rattle.vectors.specs.Listed.{digits}
use Rattle.vectors.proofs.texts.digits_at.Given as goal

abbrev pub invariant-loop-i : goal.invariant-loop-i
invariant-loop-i l =
    (l.value < 10000000000)
    × (value_from 0 (digits (drop l.from l.text)) % 10000000000 ≡ value_from l.value (digits (drop l.i l.text)) % 10000000000)
    × (l.from + length (digits (drop l.from l.text)) ≡ l.i + length (digits (drop l.i l.text)))

abbrev pub decreases-loop-i : goal.decreases-loop-i
decreases-loop-i l = length l.text - l.i
