-- The step is a number, and one is held.
use mathlib.Core.Path.{ap, ◌∙◌}
use Rattle.reals.specs.declared.Form.TheVariants.{Wholes}
use Rattle.machine.specs.Data.{suits}
use Rattle.machine.proofs.Works.{yes_true, not_true, sum_none, sum_few, sum_not, sum_some}
use Rattle.machine.proofs.Kept.{saw, saw_none, used_sound, used_room, used_trace, used_did, used_fits}
use Rattle.machine.proofs.Told.{none_held, some_held}
use Rattle.reals.proofs.Signed.{bits_pos}
use Rattle.machine.proofs.Exits.{taken, none_exit}
use Rattle.machine.proofs.loops.sum.Goals as goal

pub newest-requires : goal.newest-requires
newest-requires c = c.requires

pub returns-then-m-eq0 : goal.returns-then-m-eq0
returns-then-m-eq0 c =
    let args = c.args in
    record { does = λ a i o. sum_few _ _ args.q args.w.cell _ (saw args.n a args.store.now i o (taken c.newest.result c.ok_or.ensures.value c.in_ok-x.was) (c.newest.ensures.o_value a i o)) (none_held c.in_ok-x.m a args.store.now i o c.if-m-eq0.true); sound_d = tt }

pub returns-then-not-suits : goal.returns-then-not-suits
returns-then-not-suits c =
    let args = c.args in
    record { does = λ a i o. sum_not _ _ args.q args.w.cell _ (saw args.n a args.store.now i o (taken c.newest.result c.ok_or.ensures.value c.in_ok-x.was) (c.newest.ensures.o_value a i o)) (some_held c.in_ok-x.m a args.store.now i o (bits_pos _ c.if-m-eq0.false)) (not_true (c.suits.ensures ∙ ap (suits Wholes) c.form_of.ensures) c.if-not-suits.true-raw); sound_d = tt }

pub total-requires : goal.total-requires
total-requires c =
    let args = c.args in
    ((used_sound args.n (taken c.newest.result c.ok_or.ensures.value c.in_ok-x.was) c.newest.ensures.used_in c.requires), (used_room args.n (taken c.newest.result c.ok_or.ensures.value c.in_ok-x.was) c.newest.ensures.used_in c.requires), bits_pos _ c.if-m-eq0.false, (used_fits args.n (taken c.newest.result c.ok_or.ensures.value c.in_ok-x.was) c.newest.ensures.used_in))

pub returns-in_err-x : goal.returns-in_err-x
returns-in_err-x c =
    let args = c.args in
    let k = none_exit c.newest.result c.ok_or.ensures.value c.in_err-x.was c.from_residual.ensures.1 in
    rw k.1 (record { does = λ a i o. sum_none _ _ args.q args.w.cell _ (saw_none args.n a args.store.now i o k.0 (c.newest.ensures.o_value a i o)); sound_d = tt })

pub returns : goal.returns
returns c =
    let args = c.args in
    record { does = λ a i o. c.total.ensures.o_after a i o ∙ sum_some _ _ args.q args.w.cell _ (saw args.n a args.store.now i o (taken c.newest.result c.ok_or.ensures.value c.in_ok-x.was) (c.newest.ensures.o_value a i o)) (some_held c.in_ok-x.m a args.store.now i o (bits_pos _ c.if-m-eq0.false)) (used_trace args.n (taken c.newest.result c.ok_or.ensures.value c.in_ok-x.was) c.newest.ensures.used_in o) (yes_true (c.suits.ensures ∙ ap (suits Wholes) c.form_of.ensures) c.if-not-suits.false-raw); sound_d = used_did args.n (taken c.newest.result c.ok_or.ensures.value c.in_ok-x.was) c.newest.ensures.used_in c.total.result c.total.new.store c.total.ensures.sound_d }
