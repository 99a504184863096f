-- A real's entry is its bits in two halves.
use Rattle.std.proofs.Common.{ap, ◌∙◌}
use Rattle.reals.specs.Values.{entry_b, entry_r}
use Rattle.reals.proofs.entries.real_entry.Goals as goal

pub returns : goal.returns
unfolding entry_r
returns c = c.halves.ensures ∙ ap entry_b c.bits_of.ensures
