-- The step goes to the held ones.
use mathlib.Core.Path.{◌∙◌}
use native.Mathlib.Omega.{arith}
use Rattle.machine.proofs.Works.{keep_none, keep_some}
use Rattle.machine.proofs.Kept.{saw, saw_none, used_sound, used_room, used_trace, used_written, used_fits}
use Rattle.machine.proofs.Told.{hold_is, hold_sound, held_trace, held_written}
use Rattle.machine.proofs.Exits.{taken, none_exit}
use Rattle.machine.proofs.loops.keep.Goals as goal

pub hold-requires : goal.hold-requires
hold-requires c = omega (arith, (used_room c.args.n (taken c.newest.result c.ok_or.ensures.value c.in_ok-x.was) c.newest.ensures.used_in c.requires))

pub returns-in_err-x : goal.returns-in_err-x
returns-in_err-x c =
    let k = none_exit c.newest.result c.ok_or.ensures.value c.in_err-x.was c.from_residual.ensures.1 in
    rw k.1 (record { does = λ a i o. keep_none _ _ (saw_none c.args.n a c.args.store.now i o k.0 (c.newest.ensures.o_value a i o)); sound_d = tt })

pub returns : goal.returns
returns c =
    let m = c.in_ok-x.m in
    let s = c.args.store.now in
    let v = c.in_ok-x.x in
    let h = (used_room c.args.n (taken c.newest.result c.ok_or.ensures.value c.in_ok-x.was) c.newest.ensures.used_in c.requires) in
    let g = (used_sound c.args.n (taken c.newest.result c.ok_or.ensures.value c.in_ok-x.was) c.newest.ensures.used_in c.requires) in
    let f = (used_fits c.args.n (taken c.newest.result c.ok_or.ensures.value c.in_ok-x.was) c.newest.ensures.used_in) in
    record { does = λ a i o. keep_some _ _ (saw c.args.n a c.args.store.now i o (taken c.newest.result c.ok_or.ensures.value c.in_ok-x.was) (c.newest.ensures.o_value a i o)) (held_trace m _ o c.hold.ensures.value ∙ (used_trace c.args.n (taken c.newest.result c.ok_or.ensures.value c.in_ok-x.was) c.newest.ensures.used_in o)) (hold_is m s v c.hold.ensures.store_after f c.hold.ensures.value h a i o); sound_d = (hold_sound m s v c.hold.ensures.store_after f c.hold.ensures.value h g, held_written m _ c.hold.ensures.value ∙ used_written c.args.n (taken c.newest.result c.ok_or.ensures.value c.in_ok-x.was) c.newest.ensures.used_in) }
