-- `symbols::lexemes::name` meets its contract. The letters and digits so far and those from i on are the name's, and so are the bytes passed.
-- Assumes nothing.
use mathlib.Core.Path.{◌≡◌}
use Prim.Native.Nat.{◌+◌, ◌≤◌}
use lib.ListN.{length, get_or, drop}
use mathlib.Core.List.{◌∷◌}
use Rattle.symbols.specs.Names.{in_name, reach, letters}
use Rattle.symbols.proofs.lexemes.name.Given as goal

abbrev pub invariant-loop-i : goal.invariant-loop-i
invariant-loop-i l = (l.at + 1 + reach in_name (drop (l.at + 1) l.source) ≡ l.i + reach in_name (drop l.i l.source)) × (length (letters (get_or l.source l.at 0 ∷ drop (l.at + 1) l.source)) ≡ l.size + length (letters (drop l.i l.source))) × (l.size ≤ l.i)
