-- `names::identity::identify` meets its contract. The identities of the symbols before i stand for their names.
use mathlib.Core.Path.{◌≡◌}
use lib.ListN.{length}
use Rattle.names.specs.model.Identity.{Standing}
use Rattle.names.proofs.identity.identify.Given as goal

abbrev pub invariant-loop-i : goal.invariant-loop-i
invariant-loop-i l = (length l.ids ≡ 2048) × Standing l.source l.places l.ids l.i
