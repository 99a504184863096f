-- The newest value is the channel.
use mathlib.Core.Path.{◌∙◌}
use Rattle.machine.proofs.Works.{receive_none, receive_some}
use Rattle.machine.proofs.Kept.{saw, saw_none, used_sound, used_trace, used_did}
use Rattle.machine.proofs.Exits.{taken, none_exit}
use Rattle.machine.proofs.ports.receive.Goals as goal

pub newest-requires : goal.newest-requires
newest-requires c = c.requires

pub listen-requires : goal.listen-requires
listen-requires c = (used_sound c.args.n (taken c.newest.result c.ok_or.ensures.value c.in_ok-v.was) c.newest.ensures.used_in c.requires)

pub returns-in_err-v : goal.returns-in_err-v
returns-in_err-v c =
    let args = c.args in
    let k = none_exit c.newest.result c.ok_or.ensures.value c.in_err-v.was c.from_residual.ensures.1 in
    rw k.1 (record { o_after = λ a o. receive_none _ _ args.q args.w.cell _ (saw_none args.n a args.store.now args.input.now o k.0 (c.newest.ensures.o_value a args.input.now o)); sound_d = tt })

pub returns : goal.returns
returns c =
    let args = c.args in
    record { o_after = λ a o. c.listen.ensures.o_after a o ∙ receive_some _ _ args.q args.w.cell _ (saw args.n a args.store.now args.input.now o (taken c.newest.result c.ok_or.ensures.value c.in_ok-v.was) (c.newest.ensures.o_value a args.input.now o)) (used_trace args.n (taken c.newest.result c.ok_or.ensures.value c.in_ok-v.was) c.newest.ensures.used_in o); sound_d = used_did args.n (taken c.newest.result c.ok_or.ensures.value c.in_ok-v.was) c.newest.ensures.used_in c.listen.result c.listen.new.store c.listen.ensures.sound_d }
