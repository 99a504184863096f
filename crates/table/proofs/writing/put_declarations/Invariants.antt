-- `writing::put_declarations`: the rows that are left are yet to be written.
use Prim.Native.Nat.{◌*◌}
use lib.ListN.{drop}
use Rattle.table.specs.Table.{declaration_words}
use Rattle.table.specs.model.Writing.{place_of}
use Rattle.table.proofs.Written.{Writing}
use Rattle.table.proofs.writing.put_declarations.Given as goal

abbrev pub invariant-loop-words : goal.invariant-loop-words
invariant-loop-words l =
    Writing l.initial.table l.table l.from l.at (declaration_words (place_of l.places) (drop (4 * l.words-index) l.rows)) (declaration_words (place_of l.places) l.rows)
