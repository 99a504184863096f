-- `names::identity::identity` meets its contract. No symbol below j is the same name as the symbol.
use Rattle.names.proofs.Identities.{NoneBelow}
use Rattle.names.proofs.identity.identity.Given as goal

abbrev pub invariant-loop-j : goal.invariant-loop-j
invariant-loop-j l = NoneBelow l.source l.places l.ids l.symbol.number l.j
