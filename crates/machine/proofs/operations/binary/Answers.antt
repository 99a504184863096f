-- What the two values give is in their place.
use mathlib.Core.Path.{sym, subst, ◌∙◌}
use native.Mathlib.Omega.{arith}
use Rattle.reals.specs.model.Stored.{FittingO}
use Rattle.reals.proofs.Fits.{binary_fits}
use Rattle.machine.proofs.Works.{binary_none, binary_some}
use Rattle.machine.proofs.Kept.{saw_two, saw_no_two, pair_sound, pair_room, pair_trace, pair_did}
use Rattle.machine.proofs.Exits.{taken, none_exit}
use Rattle.machine.proofs.operations.binary.Goals as goal

pub give-requires : goal.give-requires
give-requires c = (pair_sound c.args.n (taken c.newest_two.result c.ok_or.ensures.value c.in_ok-x.was) c.newest_two.ensures.pair_in c.requires, omega (arith, pair_room c.args.n (taken c.newest_two.result c.ok_or.ensures.value c.in_ok-x.was) c.newest_two.ensures.pair_in c.requires), subst FittingO (sym c.binary.ensures) (binary_fits _ _ _))

pub returns-in_err-x : goal.returns-in_err-x
returns-in_err-x c =
    let args = c.args in
    let k = none_exit c.newest_two.result c.ok_or.ensures.value c.in_err-x.was c.from_residual.ensures.1 in
    rw k.1 (record { does = λ a i o. binary_none _ _ args.q args.op (saw_no_two args.n a args.store.now i o k.0 (c.newest_two.ensures.o_value a i o)); sound_d = tt })

pub returns : goal.returns
returns c =
    let args = c.args in
    record { does = λ a i o. c.give.ensures.o_after a i o ∙ binary_some _ _ args.q args.op (saw_two args.n a args.store.now i o (taken c.newest_two.result c.ok_or.ensures.value c.in_ok-x.was) (c.newest_two.ensures.o_value a i o)) (pair_trace args.n (taken c.newest_two.result c.ok_or.ensures.value c.in_ok-x.was) c.newest_two.ensures.pair_in o) c.binary.ensures; sound_d = pair_did args.n (taken c.newest_two.result c.ok_or.ensures.value c.in_ok-x.was) c.newest_two.ensures.pair_in c.give.result c.give.new.store c.give.ensures.sound_d }
