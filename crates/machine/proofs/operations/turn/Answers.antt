-- What the value becomes is in its place.
use mathlib.Core.Path.{sym, subst, ◌∙◌}
use Rattle.reals.specs.model.Stored.{FittingO}
use Rattle.reals.proofs.Fits.{convert_fits}
use Rattle.machine.proofs.Works.{turn_none, turn_some}
use Rattle.machine.proofs.Kept.{saw, saw_none, used_sound, used_room, used_trace, used_did, used_fits}
use Rattle.machine.proofs.Exits.{taken, none_exit}
use Rattle.machine.proofs.operations.turn.Goals as goal

pub give-requires : goal.give-requires
give-requires c =
    let args = c.args in
    ((used_sound args.n (taken c.newest.result c.ok_or.ensures.value c.in_ok-x.was) c.newest.ensures.used_in c.requires), (used_room args.n (taken c.newest.result c.ok_or.ensures.value c.in_ok-x.was) c.newest.ensures.used_in c.requires), subst FittingO (sym c.convert.ensures) (convert_fits _ _ (used_fits args.n (taken c.newest.result c.ok_or.ensures.value c.in_ok-x.was) c.newest.ensures.used_in)))

pub returns-in_err-x : goal.returns-in_err-x
returns-in_err-x c =
    let args = c.args in
    let k = none_exit c.newest.result c.ok_or.ensures.value c.in_err-x.was c.from_residual.ensures.1 in
    rw k.1 (record { does = λ a i o. turn_none _ _ args.q args.form (saw_none args.n a args.store.now i o k.0 (c.newest.ensures.o_value a i o)); sound_d = tt })

pub returns : goal.returns
returns c =
    let args = c.args in
    record { does = λ a i o. c.give.ensures.o_after a i o ∙ turn_some _ _ args.q args.form (saw args.n a args.store.now i o (taken c.newest.result c.ok_or.ensures.value c.in_ok-x.was) (c.newest.ensures.o_value a i o)) (used_trace args.n (taken c.newest.result c.ok_or.ensures.value c.in_ok-x.was) c.newest.ensures.used_in o) c.convert.ensures; sound_d = used_did args.n (taken c.newest.result c.ok_or.ensures.value c.in_ok-x.was) c.newest.ensures.used_in c.give.result c.give.new.store c.give.ensures.sound_d }
