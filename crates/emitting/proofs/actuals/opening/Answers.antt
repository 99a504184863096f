-- `emitting::actuals::opening` meets its contract: one instruction after the other, with what the three slots say.
-- Assumes nothing.
use mathlib.Core.Path.{ap, ◌∙◌}
use Rattle.emitting.specs.model.Emission.{put, ahead_at, lending}
use Rattle.emitting.proofs.Alikes.{alike_then}
use Rattle.emitting.proofs.actuals.opening.Goals as goal

pub returns : goal.returns
unfolding ahead_at
returns c =
    let a = c.args in
    let f = c.put-held.ensures.alike in
    let g = c.lending-lent.ensures.alike in
    let h = c.put.ensures.alike in
    record { by_index = λ vs ly es us op ah en. rw (c.place_ahead-place.ensures.by_index vs ly es, c.word_at.ensures.value, c.word_at-2.ensures.value) at (c.put.ensures.en_after us op ah en ∙ ap (put 7 c.place_ahead-place.result.at a.form) (c.lending-lent.ensures.en_after vs ly a.ahead.now es us op ah en ∙ ap (lending vs ly a.ahead.now es c.word_at-2.result c.place_ahead-place.result.at) (c.put-held.ensures.en_after us op ah en))); alike = (alike_then (alike_then f.0 g.0) h.0, h.2 ∙ g.2 ∙ f.2) }
