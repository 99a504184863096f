-- The bits are those of a finite real or they are not; both as `cell_of_bits` says.
use Rattle.std.proofs.Common.{sym, ap, ◌∙◌}
use Rattle.reals.proofs.ReadBack.{as_cell, cell_of_bits}
use Rattle.reals.proofs.stored.real_in.Goals as goal

pub returns-in-Some : goal.returns-in-Some
returns-in-Some c = ap as_cell (sym c.in-Some.is ∙ c.bits_in.ensures) ∙ cell_of_bits c.args.b

pub returns-in-None : goal.returns-in-None
returns-in-None c = ap as_cell (sym c.in-None.is ∙ c.bits_in.ensures) ∙ cell_of_bits c.args.b
