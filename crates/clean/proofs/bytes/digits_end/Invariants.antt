-- `clean::bytes::digits_end` meets its contract: what is passed and what the digits reach from i on is the whole reach. Assumes nothing.
use Prim.Native.Nat.{◌+◌}
use mathlib.Core.Path.{◌≡◌}
use lib.ListN.{drop}
use Rattle.symbols.specs.Names.{digit, reach}
use Rattle.clean.proofs.bytes.digits_end.Given as goal

abbrev pub invariant-loop-i : goal.invariant-loop-i
invariant-loop-i l = l.from + reach digit (drop l.from l.source) ≡ l.i + reach digit (drop l.i l.source)
