-- `clean::bytes::letters` meets its contract: what belongs to the run from i on is left. Assumes nothing.
use lib.ListN.{drop}
use Rattle.symbols.specs.Names.{these}
use Rattle.clean.specs.model.Bytes.{sort_of}
use Rattle.clean.proofs.Putting.{Putting}
use Rattle.clean.proofs.bytes.letters.Given as goal

abbrev pub invariant-loop-i : goal.invariant-loop-i
invariant-loop-i l = Putting l.initial.page l.page l.at l.to (these (sort_of l.name) (drop l.i l.source)) (these (sort_of l.name) (drop l.from l.source))
