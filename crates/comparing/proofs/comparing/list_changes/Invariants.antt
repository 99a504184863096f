-- `comparing::comparing::list_changes` meets its contract. The loop's invariant: what differs from use i on is left to write. Assumes nothing.
use mathlib.Core.List.{map}
use Prim.Native.Nat.{◌≤◌}
use lib.ListN.{drop}
use Rattle.table.proofs.Written.{Writing}
use Rattle.comparing.specs.Comparing.{differing}
use Rattle.comparing.specs.model.Words.{told, changed}
use Rattle.comparing.proofs.comparing.list_changes.Given as goal

abbrev pub invariant-loop-i : goal.invariant-loop-i
invariant-loop-i l =
    (l.i ≤ l.most) × (l.at ≤ l.i) × Writing l.initial.list l.list 0 l.at (differing l.i (drop l.i (map (told l.rows) l.uses)) (drop l.i (map (told l.other_rows) l.others))) (changed l.rows l.uses l.other_rows l.others)
