-- The newer value is used first.
use Rattle.machine.proofs.Works.{two_none, two_short, two_some}
use Rattle.machine.proofs.Kept.{saw, saw_none, used_sound, used_twice}
use Rattle.machine.proofs.operations.newest_two.Goals as goal

pub newest-requires-2 : goal.newest-requires-2
newest-requires-2 c = used_sound c.args.n c.in_ok-y.was c.newest.ensures.used_in c.requires

pub returns-in_err-y : goal.returns-in_err-y
returns-in_err-y c = rw c.from_residual.ensures (record { o_value = λ a i o f. two_none f _ (saw_none c.args.n a c.args.store.now i o c.in_err-y.was (c.newest.ensures.o_value a i o)); pair_in = tt })

pub returns-in_err-x : goal.returns-in_err-x
returns-in_err-x c =
    let args = c.args in
    rw c.from_residual-in_err-x.ensures (record { o_value = λ a i o f. two_short f _ (saw args.n a args.store.now i o c.in_ok-y.was (c.newest.ensures.o_value a i o)) (saw_none c.in_ok-y.m a args.store.now i o c.in_err-x.was (c.newest-2.ensures.o_value a i o)); pair_in = tt })

pub returns : goal.returns
returns c =
    let args = c.args in
    record { o_value = λ a i o f. two_some f _ (saw args.n a args.store.now i o c.in_ok-y.was (c.newest.ensures.o_value a i o)) (saw c.in_ok-y.m a args.store.now i o c.in_ok-x.was (c.newest-2.ensures.o_value a i o)); pair_in = used_twice args.n c.in_ok-y.was c.newest.ensures.used_in c.in_ok-x.was c.newest-2.ensures.used_in }
