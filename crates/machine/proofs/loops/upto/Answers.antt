-- The newest value is the bound, and the newest held one the step.
use mathlib.Core.Path.{◌∙◌}
use Rattle.machine.proofs.Works.{upto_none, upto_few, upto_some}
use Rattle.machine.proofs.Kept.{saw, saw_none, used_sound, used_trace, used_written, test_as}
use Rattle.machine.proofs.Told.{held_unset, held_named, held_some, held_least}
use Rattle.machine.proofs.Exits.{taken, none_exit}
use mathlib.Core.Logic.{⊎_elim}
use Rattle.machine.proofs.loops.upto.Goals as goal

pub newest-requires : goal.newest-requires
newest-requires c = c.requires

pub held-requires : goal.held-requires
held-requires c = (used_sound c.args.n (taken c.newest.result c.ok_or.ensures.value c.in_ok-y.was) c.newest.ensures.used_in c.requires)

pub count-requires : goal.count-requires
count-requires c = ((used_sound c.args.n (taken c.newest.result c.ok_or.ensures.value c.in_ok-y.was) c.newest.ensures.used_in c.requires), held_least c.in_ok-y.m c.args.store.now c.in-Holds.is c.held.ensures)

pub returns-in_err-y : goal.returns-in_err-y
returns-in_err-y c =
    let args = c.args in
    let k = none_exit c.newest.result c.ok_or.ensures.value c.in_err-y.was c.from_residual.ensures.1 in
    rw k.1 (record { tests = λ a i o. upto_none _ _ args.q args.w.cell _ (saw_none args.n a args.store.now i o k.0 (c.newest.ensures.o_value a i o)); sound_t = tt })

pub returns-in-Holds : goal.returns-in-Holds
returns-in-Holds c =
    let args = c.args in
    record { tests = λ a i o. c.count.ensures.o_value a i o ∙ upto_some _ _ args.q args.w.cell _ (saw args.n a args.store.now i o (taken c.newest.result c.ok_or.ensures.value c.in_ok-y.was) (c.newest.ensures.o_value a i o)) (held_some c.in_ok-y.m a args.store.now i o c.in-Holds.is c.held.ensures) (used_trace args.n (taken c.newest.result c.ok_or.ensures.value c.in_ok-y.was) c.newest.ensures.used_in o); sound_t = test_as args.n c.in_ok-y.m c.count.result args.store.now (used_written args.n (taken c.newest.result c.ok_or.ensures.value c.in_ok-y.was) c.newest.ensures.used_in) c.count.ensures.sound_t }

pub returns-in-Unset : goal.returns-in-Unset
returns-in-Unset c =
    let args = c.args in
    let e = taken c.newest.result c.ok_or.ensures.value c.in_ok-y.was in
    ⊎_elim
    (λ p. record { tests = λ a i o. upto_few _ _ args.q args.w.cell _ (saw args.n a args.store.now i o e (c.newest.ensures.o_value a i o)) (held_unset c.in_ok-y.m a args.store.now i o p.1 c.held.ensures); sound_t = tt })
    (λ p. record { tests = λ a i o. upto_few _ _ args.q args.w.cell _ (saw args.n a args.store.now i o e (c.newest.ensures.o_value a i o)) (held_named c.in_ok-y.m a args.store.now i o p.1 c.held.ensures); sound_t = tt })
    c.in-Unset.is
