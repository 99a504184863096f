-- `asking::numerals::natural_in` meets its contract. The digits passed are kept as their value: with those from there on it is the value of all.
-- Assumes nothing.
use Rattle.std.proofs.Common.{◌≡◌, ◌≤◌, drop}
use Rattle.symbols.specs.Names.{value_from}
use Rattle.asking.specs.Numerals.{digits}
use Rattle.asking.proofs.numerals.natural_in.Given as goal

abbrev pub invariant-loop-b : goal.invariant-loop-b
invariant-loop-b l =
    (l.value ≤ 18446744073709551615) × (digits l.text ≡ digits (drop l.b-index l.text)) × (value_from 0 l.text ≡ value_from l.value (drop l.b-index l.text))
