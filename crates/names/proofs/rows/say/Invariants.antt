-- `names::rows::say` meets its contract: the rows passed are told, and the rest is yet to be.
use mathlib.Core.Path.{◌≡◌}
use Prim.Native.Nat.{◌*◌}
use lib.ListN.{length, take}
use Rattle.names.specs.model.Rows.{saying}
use Rattle.names.proofs.RowLaws.{told_to}
use Rattle.names.proofs.rows.say.Given as goal

abbrev pub invariant-loop-number : goal.invariant-loop-number
invariant-loop-number l =
    (length l.rows ≡ length l.initial.rows) × (told_to l.ids l.want l.word l.number (take (4 * l.n) l.rows) ≡ saying l.ids l.want l.word (take (4 * l.n) l.initial.rows))
