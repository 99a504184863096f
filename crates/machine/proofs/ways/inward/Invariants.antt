-- So many formals are left to pass.
use mathlib.Core.Path.{◌≡◌}
use Rattle.machine.specs.model.Holding.{in_t, links_of}
use Rattle.machine.proofs.ways.inward.Given as goal

abbrev pub invariant-loop-j : goal.invariant-loop-j
invariant-loop-j l = in_t l.q l.form (links_of l.own l.j) l.u ≡ in_t l.q l.form (links_of l.own l.k) l.initial.u
