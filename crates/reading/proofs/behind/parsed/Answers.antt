-- `reading::behind::parsed` meets its contract: what was read are a scheme's nodes, and what was refused is 5 or 6. Assumes nothing.
use mathlib.Core.Path.{ap, ◌∙◌}
use native.Mathlib.Omega.{arith}
use Rattle.answers.specs.Answers.{refusal}
use Rattle.reading.proofs.SchemeStands.{scheme_nodes, scheme_refusals, refused_within}
use Rattle.reading.proofs.behind.parsed.Goals as goal

pub overflow_cast-symbol : goal.overflow_cast-symbol
overflow_cast-symbol c = omega (arith, refused_within c.requires.0 _ c.requires.2 c.requires.3 c.requires.4 c.parse.ensures _ _ c.in-Err.is)

pub returns-in-Ok : goal.returns-in-Ok
returns-in-Ok c = λ prelude values s k. scheme_nodes prelude _ s k c.parse.ensures _ _ c.in-Ok.is

pub returns-in-Err : goal.returns-in-Err
returns-in-Err c = λ prelude values s k. scheme_refusals prelude _ s k c.parse.ensures _ _ c.in-Err.is _ (c.new.ensures ∙ ap (refusal _) c.place_at-place.ensures)
