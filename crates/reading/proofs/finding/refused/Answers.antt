-- `reading::finding::refused` meets its contract: number and symbol are read off the fault. Assumes nothing.
use mathlib.Core.Path.{ap, ◌∙◌}
use Rattle.answers.specs.Answers.{refusal}
use Rattle.reading.proofs.finding.refused.Goals as goal

pub returns : goal.returns
returns c = c.new.ensures ∙ ap (refusal _) c.place_at-place.ensures
