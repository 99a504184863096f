-- `reading::finding::parsed` meets its contract: what was read are a program's nodes, and the passes tell the rest; what was refused is 5 or 6. Assumes nothing.
use mathlib.Core.Path.{refl, ap, ◌∙◌}
use native.Mathlib.Omega.{arith}
use Rattle.answers.specs.Answers.{refusal}
use Rattle.answers.specs.declared.Verdict.TheVariants.{Refused}
use Rattle.reading.specs.model.Stages.{refused}
use Rattle.reading.proofs.Answers.{as-judged, from-passes, place_is}
use Rattle.reading.proofs.Stages.{ready, refusals, refused_at_lem}
use Rattle.reading.proofs.finding.parsed.Goals as goal

pub overflow_cast-symbol : goal.overflow_cast-symbol
overflow_cast-symbol c = omega (arith, refused_at_lem c.requires c.parse.ensures _ _ c.in-Err.is)

pub returns-in-Ok : goal.returns-in-Ok
returns-in-Ok c = from-passes (ready c.requires c.parse.ensures _ _ c.in-Ok.is) c.passed.ensures

pub returns-in-Err : goal.returns-in-Err
returns-in-Err c = refused _ (as-judged (ap Refused (c.new.ensures ∙ ap (refusal _) (c.place_at-place.ensures ∙ place_is c.requires.places_in _))) refl (refusals c.requires c.parse.ensures _ _ c.in-Err.is))
