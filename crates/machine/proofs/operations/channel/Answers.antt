-- The channel is 1, another one or none.
use mathlib.Core.Path.{sym, ◌∙◌}
use Rattle.machine.proofs.Works.{channel_none, channel_one, channel_other, channel_stray}
use Rattle.machine.proofs.Kept.{saw, saw_none, used_sound, used_room, used_trace, used_did, used_fits}
use Rattle.machine.proofs.Exits.{taken, none_exit}
use Rattle.machine.proofs.operations.channel.Goals as goal

pub back-requires : goal.back-requires
back-requires c =
    let args = c.args in
    ((used_sound args.n (taken c.newest.result c.ok_or.ensures.value c.in_ok-v.was) c.newest.ensures.used_in c.requires), (used_room args.n (taken c.newest.result c.ok_or.ensures.value c.in_ok-v.was) c.newest.ensures.used_in c.requires), (used_fits args.n (taken c.newest.result c.ok_or.ensures.value c.in_ok-v.was) c.newest.ensures.used_in))

pub returns-in_err-v : goal.returns-in_err-v
returns-in_err-v c =
    let args = c.args in
    let k = none_exit c.newest.result c.ok_or.ensures.value c.in_err-v.was c.from_residual.ensures.1 in
    rw k.1 (record { does = λ a i o. channel_none _ _ args.q (saw_none args.n a args.store.now i o k.0 (c.newest.ensures.o_value a i o)); sound_d = tt })

pub returns-in-One : goal.returns-in-One
returns-in-One c =
    let args = c.args in
    record { does = λ a i o. c.back.ensures.o_after a i o ∙ channel_one _ _ args.q (saw args.n a args.store.now i o (taken c.newest.result c.ok_or.ensures.value c.in_ok-v.was) (c.newest.ensures.o_value a i o)) (sym c.line.ensures ∙ c.in-One.is) (used_trace args.n (taken c.newest.result c.ok_or.ensures.value c.in_ok-v.was) c.newest.ensures.used_in o); sound_d = used_did args.n (taken c.newest.result c.ok_or.ensures.value c.in_ok-v.was) c.newest.ensures.used_in c.back.result c.back.new.store c.back.ensures.sound_d }

pub returns-in-Other : goal.returns-in-Other
returns-in-Other c =
    let args = c.args in
    record { does = λ a i o. channel_other _ _ args.q (saw args.n a args.store.now i o (taken c.newest.result c.ok_or.ensures.value c.in_ok-v.was) (c.newest.ensures.o_value a i o)) (sym c.line.ensures ∙ c.in-Other.is); sound_d = tt }

pub returns-in-Not : goal.returns-in-Not
returns-in-Not c =
    let args = c.args in
    record { does = λ a i o. channel_stray _ _ args.q (saw args.n a args.store.now i o (taken c.newest.result c.ok_or.ensures.value c.in_ok-v.was) (c.newest.ensures.o_value a i o)) (sym c.line.ensures ∙ c.in-Not.is); sound_d = tt }
