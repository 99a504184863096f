-- The channel, and the value.
use mathlib.Core.Path.{refl, ◌∙◌}
use native.Mathlib.Omega.{arith}
use Rattle.machine.proofs.Works.{send_none, send_some, send_stray}
use Rattle.machine.proofs.Kept.{saw_two, saw_no_two, pair_sound, pair_trace, pair_written}
use Rattle.machine.proofs.Exits.{taken, none_exit}
use Rattle.machine.proofs.ports.send.Goals as goal

pub newest_two-requires : goal.newest_two-requires
newest_two-requires c = c.requires.0

pub speak-requires : goal.speak-requires
speak-requires c = omega (arith, pair_written c.args.n (taken c.newest_two.result c.ok_or.ensures.value c.in_ok-k.was) c.newest_two.ensures.pair_in, c.requires.1)

pub returns-in_err-k : goal.returns-in_err-k
returns-in_err-k c =
    let args = c.args in
    let k = none_exit c.newest_two.result c.ok_or.ensures.value c.in_err-k.was c.from_residual.ensures.1 in
    rw k.1 (record { output_after = λ a i. send_none _ _ args.q args.form (saw_no_two args.n a args.store.now i args.output.now k.0 (c.newest_two.ensures.o_value a i _)); sound_o = refl })

pub returns : goal.returns
returns c =
    let args = c.args in
    record { output_after = λ a i. c.speak.ensures.output_after a args.store.now i ∙ send_some _ _ args.q args.form c.entry_of.result (saw_two args.n a args.store.now i args.output.now (taken c.newest_two.result c.ok_or.ensures.value c.in_ok-k.was) (c.newest_two.ensures.o_value a i _)) (pair_trace args.n (taken c.newest_two.result c.ok_or.ensures.value c.in_ok-k.was) c.newest_two.ensures.pair_in args.output.now) c.entry_of.ensures (taken c.entry_of.result c.ok_or-2.ensures.value c.in_ok-e.was); sound_o = c.speak.ensures.sound_o args.store.now (pair_sound args.n (taken c.newest_two.result c.ok_or.ensures.value c.in_ok-k.was) c.newest_two.ensures.pair_in c.requires.0) }

pub returns-in_err-e : goal.returns-in_err-e
returns-in_err-e c =
    let args = c.args in
    let k = none_exit c.entry_of.result c.ok_or-2.ensures.value c.in_err-e.was c.from_residual-in_err-e.ensures.1 in
    rw k.1 (record { output_after = λ a i. send_stray _ _ args.q args.form c.entry_of.result (saw_two args.n a args.store.now i args.output.now (taken c.newest_two.result c.ok_or.ensures.value c.in_ok-k.was) (c.newest_two.ensures.o_value a i _)) (pair_trace args.n (taken c.newest_two.result c.ok_or.ensures.value c.in_ok-k.was) c.newest_two.ensures.pair_in args.output.now) c.entry_of.ensures k.0; sound_o = refl })
