-- `reading::preluding::parsed` meets its contract: what was read are a prelude's nodes, and what was refused is 5 or 6. Assumes nothing.
use mathlib.Core.Path.{ap, ◌∙◌}
use native.Mathlib.Omega.{arith}
use Rattle.answers.specs.Answers.{refusal}
use Rattle.reading.proofs.PreludeStands.{words_stand, refused_at_lem, refused_so}
use Rattle.reading.proofs.preluding.parsed.Goals as goal

pub checked-requires : goal.checked-requires
checked-requires c = (_, words_stand _ c.requires.0.1 c.requires.1 c.parse_prelude.ensures _ _ c.in-Ok.is)

pub overflow_cast-symbol : goal.overflow_cast-symbol
overflow_cast-symbol c = omega (arith, refused_at_lem _ c.requires.0.1 c.requires.1 c.parse_prelude.ensures _ _ c.in-Err.is)

pub returns-in-Ok : goal.returns-in-Ok
returns-in-Ok c = λ values s. c.checked.ensures values (words_stand _ s c.requires.1 c.parse_prelude.ensures _ _ c.in-Ok.is)

pub returns-in-Err : goal.returns-in-Err
returns-in-Err c = λ values s. refused_so _ s c.requires.1 c.parse_prelude.ensures _ _ c.in-Err.is _ (c.new.ensures ∙ ap (refusal _) c.place_at-place.ensures)
