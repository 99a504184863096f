-- `writing::put_uses`: the uses among the nodes that are left are yet to be written.
use Prim.Native.Nat.{◌*◌, ◌≤◌}
use lib.ListN.{drop}
use Rattle.table.specs.model.Writing.{place_of, use_model}
use Rattle.table.proofs.Written.{Writing}
use Rattle.table.proofs.writing.put_uses.Given as goal

abbrev pub invariant-loop-words : goal.invariant-loop-words
invariant-loop-words l =
    (l.u ≤ l.words-index) × Writing l.initial.table l.table l.from l.at (use_model (place_of l.places) l.rows (drop (4 * l.words-index) l.nodes) (drop l.u l.uses)) (use_model (place_of l.places) l.rows l.nodes l.uses)
