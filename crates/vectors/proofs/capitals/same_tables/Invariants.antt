-- `vectors::capitals::same_tables` meets its contract. Whether the rest from i on is equal is whether all is.
-- Assumes nothing.
use mathlib.Core.Path.{◌≡◌}
use lib.ListN.{length, drop}
use Rattle.symbols.specs.Names.{equal}
use Rattle.vectors.proofs.capitals.same_tables.Given as goal

abbrev pub invariant-loop-i : goal.invariant-loop-i
invariant-loop-i l = (length l.a ≡ length l.b) × (equal l.a l.b ≡ equal (drop l.i l.a) (drop l.i l.b))
