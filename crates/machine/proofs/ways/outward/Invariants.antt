-- So many formals have been passed.
use mathlib.Core.Path.{◌≡◌}
use Rattle.std.specs.Prelude.{Ok}
use Rattle.machine.specs.model.Holding.{out_t, links_of}
use Rattle.machine.proofs.ways.outward.Given as goal

abbrev pub invariant-loop-j : goal.invariant-loop-j
invariant-loop-j l = out_t (links_of l.own l.j) l.initial.u ≡ Ok l.u
