-- Nothing is done with the value.
use Rattle.machine.proofs.Works.{forget_none, forget_some}
use Rattle.machine.proofs.Kept.{saw, saw_none, used_sound, used_trace, used_written}
use Rattle.machine.proofs.Exits.{taken, none_exit}
use Rattle.machine.proofs.operations.forget.Goals as goal

pub returns-in_err-m : goal.returns-in_err-m
returns-in_err-m c =
    let k = none_exit c.newest.result c.ok_or.ensures.value c.in_err-m.was c.from_residual.ensures.1 in
    rw k.1 (record { does = λ a i o. forget_none _ _ (saw_none c.args.n a c.args.store.now i o k.0 (c.newest.ensures.o_value a i o)); sound_d = tt })

pub returns : goal.returns
returns c =
    let args = c.args in
    record { does = λ a i o. forget_some _ _ (saw args.n a args.store.now i o (taken c.newest.result c.ok_or.ensures.value c.in_ok-m.was) (c.newest.ensures.o_value a i o)) (used_trace args.n (taken c.newest.result c.ok_or.ensures.value c.in_ok-m.was) c.newest.ensures.used_in o); sound_d = ((used_sound args.n (taken c.newest.result c.ok_or.ensures.value c.in_ok-m.was) c.newest.ensures.used_in c.requires), used_written args.n (taken c.newest.result c.ok_or.ensures.value c.in_ok-m.was) c.newest.ensures.used_in) }
