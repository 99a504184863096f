-- `showing::text::name_row` meets its contract. The row holds the first n letters, and the others are ahead from i on.
-- Assumes nothing.
use Prim.Native.Nat.{◌-◌}
use lib.ListN.{length, drop}
use Rattle.symbols.specs.Names.{letters, letters_at}
use Rattle.showing.proofs.Rows.{Filled}
use Rattle.showing.proofs.text.name_row.Given as goal

abbrev pub invariant-loop-i : goal.invariant-loop-i
invariant-loop-i l = Filled (letters_at l.source l.at) l.initial.row l.row (letters (drop l.i l.source)) l.n

abbrev pub decreases-loop-i : goal.decreases-loop-i
decreases-loop-i l = length l.source - l.i
