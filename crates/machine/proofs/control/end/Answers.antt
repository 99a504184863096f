-- Its cells go; where it was begun for a store its formal is on the way.
use mathlib.Core.Path.{refl, ap, ◌∙◌}
use Rattle.machine.specs.Data.{link}
use Rattle.machine.specs.model.Holding.{lifted, own_of, Own, seen_d, form_of_word}
use Rattle.machine.proofs.Execs.{strayed, strayed_sound, return_none, return_lifted, left_same, left_room, left_more, left_positions, left_frames, left_lives, lifted_as, did_quiet}
use Rattle.machine.proofs.Frames.{ended_asks, ended_positions, ended_frames, ended_found, ended_lives}
use Rattle.reals.proofs.Signed.{bits_pos}
use Rattle.machine.proofs.control.end.Goals as goal

pub returns-then-live-eq0 : goal.returns-then-live-eq0
returns-then-live-eq0 c =
    let args = c.args in
    record { o_after = λ i o. strayed c.stray.ensures _ _ i o ∙ return_none _ args.at _ args.own.now args.live _ _ c.if-live-eq0.true; sound_g = λ o h. strayed_sound c.stray.ensures _ _ o o refl }

pub renew-requires : goal.renew-requires
renew-requires c = ended_asks c.args.own.now c.args.live c.requires.1

pub add_link-requires : goal.add_link-requires
add_link-requires c = left_room c.args.own.now _ c.args.live c.args.f c.args.place c.requires.1 c.renew.ensures.agree c.renew.ensures.shows (bits_pos _ c.if-live-eq0.false) c.word-fate.ensures c.if-fate-gt-KEPT.true

pub returns-then-fate-gt-KEPT : goal.returns-then-fate-gt-KEPT
returns-then-fate-gt-KEPT c =
    let args = c.args in
    record { o_after = λ i o. c.lift.ensures.o_value args.store.now i o _ ∙ lifted_as _ _ (left_positions c.args.own.now _ c.args.live c.args.f c.args.place c.requires.1 c.renew.ensures.agree c.renew.ensures.shows (bits_pos _ c.if-live-eq0.false) c.word-fate.ensures c.if-fate-gt-KEPT.true c.add_link.ensures) (left_frames c.args.own.now _ c.args.live c.args.f c.args.place c.requires.1 c.renew.ensures.agree c.renew.ensures.shows (bits_pos _ c.if-live-eq0.false) c.word-fate.ensures c.if-fate-gt-KEPT.true c.add_link.ensures) _ ∙ ap (lifted _ _) (ap (λ (a : Own). seen_d c.leave-did.result a args.store.now i o) (left_more c.args.own.now _ c.args.live c.args.f c.args.place c.requires.1 c.renew.ensures.agree c.renew.ensures.shows (bits_pos _ c.if-live-eq0.false) c.word-fate.ensures c.if-fate-gt-KEPT.true c.add_link.ensures) ∙ c.leave-did.ensures.o_value (link (form_of_word args.f) args.place) (own_of args.own.now args.live) i o) ∙ return_lifted _ c.args.at _ c.args.own.now c.args.live _ _ (bits_pos _ c.if-live-eq0.false) c.word-next.ensures c.word-fate.ensures c.word-q.ensures c.word-b.ensures; sound_g = λ o h. c.lift.ensures.sound_g args.store.now o o _ (did_quiet args.n c.leave-did.result args.store.now o c.leave-did.ensures.sound_d h) (left_lives c.args.own.now _ c.args.live c.args.f c.args.place c.requires.1 c.renew.ensures.agree c.renew.ensures.shows (bits_pos _ c.if-live-eq0.false) c.word-fate.ensures c.if-fate-gt-KEPT.true c.add_link.ensures) }

pub returns : goal.returns
returns c =
    let args = c.args in
    record { o_after = λ i o. c.lift-2.ensures.o_value args.store.now i o _ ∙ lifted_as _ _ (ended_positions c.args.own.now _ c.args.live c.requires.1 c.renew.ensures.agree c.renew.ensures.shows) (ended_frames c.args.own.now _ c.args.live c.requires.1 c.renew.ensures.agree c.renew.ensures.shows) _ ∙ ap (lifted _ _) (ap (λ (a : Own). seen_d c.leave-did.result a args.store.now i o) (left_same args.own.now _ args.live c.word-fate.result (link (form_of_word args.f) args.place) (ended_found c.args.own.now _ c.args.live c.requires.1 c.renew.ensures.agree c.renew.ensures.shows) c.if-fate-gt-KEPT.false) ∙ c.leave-did.ensures.o_value (link (form_of_word args.f) args.place) (own_of args.own.now args.live) i o) ∙ return_lifted _ c.args.at _ c.args.own.now c.args.live _ _ (bits_pos _ c.if-live-eq0.false) c.word-next.ensures c.word-fate.ensures c.word-q.ensures c.word-b.ensures; sound_g = λ o h. c.lift-2.ensures.sound_g args.store.now o o _ (did_quiet args.n c.leave-did.result args.store.now o c.leave-did.ensures.sound_d h) (ended_lives c.args.own.now _ c.args.live c.requires.1 c.renew.ensures.agree c.renew.ensures.shows) }
