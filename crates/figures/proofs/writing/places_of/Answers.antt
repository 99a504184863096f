-- `figures::writing::places_of` meets its contract: the greatest power of ten within has one digit less.
-- Assumes nothing.
use Rattle.std.proofs.Common.{sym}
use Rattle.figures.proofs.Rounding.{places_log, places_zero}
use Rattle.figures.proofs.writing.places_of.Goals as goal

pub returns-in-Some : goal.returns-in-Some
returns-in-Some c = places_log c.args.c c.in-Some.n c.in-Some.ensures.power_le c.in-Some.ensures.next_power_gt c.in-Some.ensures.bound

pub returns-in-None : goal.returns-in-None
returns-in-None c = sym (places_zero c.args.c 20 c.in-None.ensures.none)
