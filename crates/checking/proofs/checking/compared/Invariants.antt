-- `checking::checking::compared` meets its contract. The invariant, `Left`: what is left of the list is to be compared with the rows that are left.
-- Assumes nothing.
use Prim.Native.Nat.{◌+◌, ◌*◌, ◌-◌}
use Rattle.checking.proofs.RowLaws.{Left}
use Rattle.checking.proofs.checking.compared.Given as goal

abbrev pub invariant-loop-i : goal.invariant-loop-i
invariant-loop-i l = Left l.list l.table l.wide l.width (l.rows - l.i) l.at (1 + l.i * l.wide)
