-- `symbols::names::next_letter` meets its contract. From i on the same letters are left as from `from` on.
-- Assumes nothing.
use mathlib.Core.Path.{◌≡◌}
use lib.ListN.{drop}
use Rattle.symbols.specs.Names.{letters}
use Rattle.symbols.proofs.names.next_letter.Given as goal

abbrev pub invariant-loop-i : goal.invariant-loop-i
invariant-loop-i l = letters (drop l.from l.source) ≡ letters (drop l.i l.source)
