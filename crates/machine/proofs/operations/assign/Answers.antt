-- The value goes to a cell that is still in use, and takes its type.
use mathlib.Core.Path.{◌∙◌}
use native.Mathlib.Omega.{arith}
use Rattle.machine.proofs.Works.{assign_none, assign_out, assign_not, assign_is}
use Rattle.machine.proofs.Turns.{reach_as, reach_form}
use Rattle.machine.proofs.Kept.{cell_in, cell_out, look_data, saw, saw_none, used_sound, used_room, used_trace, used_did, used_fits}
use Rattle.machine.proofs.Exits.{taken, none_exit}
use Rattle.machine.proofs.operations.assign.Goals as goal

pub newest-requires : goal.newest-requires
newest-requires c = c.requires

pub returns-then-w-m : goal.returns-then-w-m
returns-then-w-m c =
    let args = c.args in
    record { does = λ a i o. assign_out _ _ args.q args.w.cell _ (saw args.n a args.store.now i o (taken c.newest.result c.ok_or.ensures.value c.in_ok-v.was) (c.newest.ensures.o_value a i o)) (cell_out c.in_ok-v.m a args.store.now i o args.w.cell c.if-w-m.true); sound_d = tt }

pub cell_at-requires : goal.cell_at-requires
cell_at-requires c = omega (arith, c.if-w-m.false, (used_room c.args.n (taken c.newest.result c.ok_or.ensures.value c.in_ok-v.was) c.newest.ensures.used_in c.requires))

pub assign_through-requires : goal.assign_through-requires
assign_through-requires c =
    let args = c.args in
    ((used_sound args.n (taken c.newest.result c.ok_or.ensures.value c.in_ok-v.was) c.newest.ensures.used_in c.requires), c.if-w-m.false, (used_fits args.n (taken c.newest.result c.ok_or.ensures.value c.in_ok-v.was) c.newest.ensures.used_in), (used_room args.n (taken c.newest.result c.ok_or.ensures.value c.in_ok-v.was) c.newest.ensures.used_in c.requires))

pub returns-in_err-v : goal.returns-in_err-v
returns-in_err-v c =
    let args = c.args in
    let k = none_exit c.newest.result c.ok_or.ensures.value c.in_err-v.was c.from_residual.ensures.1 in
    rw k.1 (record { does = λ a i o. assign_none _ _ args.q args.w.cell _ (saw_none args.n a args.store.now i o k.0 (c.newest.ensures.o_value a i o)); sound_d = tt })

pub returns : goal.returns
returns c =
    let args = c.args in
    record { does = λ a i o. c.assign_through.ensures.o_after a i o ∙ assign_is _ _ args.q args.w.cell _ (saw args.n a args.store.now i o (taken c.newest.result c.ok_or.ensures.value c.in_ok-v.was) (c.newest.ensures.o_value a i o)) (cell_in c.in_ok-v.m a args.store.now i o args.w.cell c.if-w-m.false) (look_data c.in_ok-v.m a args.store.now i o args.w.cell c.if-w-m.false) (reach_as _ c.reach.ensures c.form_of.ensures c.cell_at.ensures (taken c.reach.result c.ok_or-2.ensures.value c.in_ok-form.was)) (reach_form _ _ _ (reach_as _ c.reach.ensures c.form_of.ensures c.cell_at.ensures (taken c.reach.result c.ok_or-2.ensures.value c.in_ok-form.was))) (used_trace args.n (taken c.newest.result c.ok_or.ensures.value c.in_ok-v.was) c.newest.ensures.used_in o); sound_d = used_did args.n (taken c.newest.result c.ok_or.ensures.value c.in_ok-v.was) c.newest.ensures.used_in c.assign_through.result c.assign_through.new.store c.assign_through.ensures.sound_d }

pub returns-in_err-form : goal.returns-in_err-form
returns-in_err-form c =
    let args = c.args in
    let k = none_exit c.reach.result c.ok_or-2.ensures.value c.in_err-form.was c.from_residual-in_err-form.ensures.1 in
    rw k.1 (record { does = λ a i o. assign_not _ _ args.q args.w.cell _ (saw args.n a args.store.now i o (taken c.newest.result c.ok_or.ensures.value c.in_ok-v.was) (c.newest.ensures.o_value a i o)) (cell_in c.in_ok-v.m a args.store.now i o args.w.cell c.if-w-m.false) (look_data c.in_ok-v.m a args.store.now i o args.w.cell c.if-w-m.false) (reach_as _ c.reach.ensures c.form_of.ensures c.cell_at.ensures k.0); sound_d = tt })
