-- A logical value decides.
use Rattle.machine.proofs.Works.{condition_none, condition_whole, condition_real}
use Rattle.machine.proofs.Kept.{saw, saw_none, used_sound, used_trace, used_written}
use Rattle.machine.proofs.Exits.{taken, none_exit, chosen_sound, condition_is}
use mathlib.Core.Logic.{⊎_elim}
use Rattle.machine.proofs.operations.condition.Goals as goal

pub returns-in_err-v : goal.returns-in_err-v
returns-in_err-v c =
    let k = none_exit c.newest.result c.ok_or.ensures.value c.in_err-v.was c.from_residual.ensures.1 in
    rw k.1 (record { tests = λ a i o. condition_none _ _ (saw_none c.args.n a c.args.store.now i o k.0 (c.newest.ensures.o_value a i o)); sound_t = tt })

pub returns-in-Truth : goal.returns-in-Truth
returns-in-Truth c =
    let args = c.args in
    let e = taken c.newest.result c.ok_or.ensures.value c.in_ok-v.was in
    let u = c.newest.ensures.used_in in
    record { tests = λ a i o. condition_is _ c.in_ok-v.m a args.store.now i o (saw args.n a args.store.now i o e (c.newest.ensures.o_value a i o)) (used_trace args.n e u o) c.in-Truth.is; sound_t = chosen_sound args.n c.in-Truth.b c.in_ok-v.m args.store.now ((used_sound args.n e u c.requires), used_written args.n e u) }

pub returns-in-Whole : goal.returns-in-Whole
returns-in-Whole c =
    let args = c.args in
    let e = taken c.newest.result c.ok_or.ensures.value c.in_ok-v.was in
    ⊎_elim
    (λ p. record { tests = λ a i o. condition_whole _ _ (saw args.n a args.store.now i o e (c.newest.ensures.o_value a i o)) p.1; sound_t = tt })
    (λ p. record { tests = λ a i o. condition_real _ _ (saw args.n a args.store.now i o e (c.newest.ensures.o_value a i o)) p.1; sound_t = tt })
    c.in-Whole.is
