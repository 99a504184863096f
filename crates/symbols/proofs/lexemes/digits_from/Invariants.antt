-- `symbols::lexemes::digits_from` meets its contract. The value and the count so far and the digits from i on make those of the run, the value up to
-- the cap; the bytes passed are its bytes.
-- Assumes nothing.
use mathlib.Core.Path.{◌≡◌}
use Prim.Native.Nat.{◌+◌, ◌≤◌}
use lib.ListN.{length, drop}
use Rattle.symbols.specs.Names.{digit, these, reach, value_from}
use Rattle.symbols.specs.model.Steps.{capped}
use Rattle.symbols.proofs.lexemes.digits_from.Given as goal

abbrev pub invariant-loop-i : goal.invariant-loop-i
invariant-loop-i l =
    (l.from + reach digit (drop l.from l.source) ≡ l.i + reach digit (drop l.i l.source))
    × (capped (value_from l.value (these digit (drop l.from l.source))) ≡ capped (value_from l.v (these digit (drop l.i l.source)))) × (l.v ≤ 1000000000000000)
    × (l.count + length (these digit (drop l.from l.source)) ≡ l.n + length (these digit (drop l.i l.source))) × (l.n ≤ l.i)
