-- What the value becomes is in its place.
use mathlib.Core.Path.{sym, subst, ◌∙◌}
use Rattle.reals.specs.model.Stored.{FittingO}
use Rattle.machine.proofs.Turns.{raised_fits}
use Rattle.machine.proofs.Works.{heighten_none, heighten_some}
use Rattle.machine.proofs.Kept.{saw, saw_none, used_sound, used_room, used_trace, used_did}
use Rattle.machine.proofs.Exits.{taken, none_exit}
use Rattle.machine.proofs.operations.heighten.Goals as goal

pub give-requires : goal.give-requires
give-requires c = ((used_sound c.args.n (taken c.newest.result c.ok_or.ensures.value c.in_ok-x.was) c.newest.ensures.used_in c.requires), (used_room c.args.n (taken c.newest.result c.ok_or.ensures.value c.in_ok-x.was) c.newest.ensures.used_in c.requires), subst FittingO (sym c.raised.ensures) (raised_fits _ _))

pub returns-in_err-x : goal.returns-in_err-x
returns-in_err-x c =
    let args = c.args in
    let k = none_exit c.newest.result c.ok_or.ensures.value c.in_err-x.was c.from_residual.ensures.1 in
    rw k.1 (record { does = λ a i o. heighten_none _ _ args.h (saw_none args.n a args.store.now i o k.0 (c.newest.ensures.o_value a i o)); sound_d = tt })

pub returns : goal.returns
returns c =
    let args = c.args in
    record { does = λ a i o. c.give.ensures.o_after a i o ∙ heighten_some _ _ args.h (saw args.n a args.store.now i o (taken c.newest.result c.ok_or.ensures.value c.in_ok-x.was) (c.newest.ensures.o_value a i o)) (used_trace args.n (taken c.newest.result c.ok_or.ensures.value c.in_ok-x.was) c.newest.ensures.used_in o) c.raised.ensures; sound_d = used_did args.n (taken c.newest.result c.ok_or.ensures.value c.in_ok-x.was) c.newest.ensures.used_in c.give.result c.give.new.store c.give.ensures.sound_d }
