-- The cell takes numbers, and the channel is 1.
use mathlib.Core.Path.{refl, sym, ◌∙◌}
use native.Mathlib.Omega.{arith}
use Rattle.machine.specs.model.Holding.{data_of, links_of}
use Rattle.machine.proofs.Works.{listen_out, listen_not, listen_one, listen_other, listen_stray}
use Rattle.machine.proofs.Turns.{reach_as, reach_form}
use Rattle.machine.proofs.Kept.{cell_in, cell_out, look_data}
use Rattle.machine.proofs.Exits.{taken, none_exit}
use Rattle.machine.proofs.ports.listen.Goals as goal

pub returns-then-w-n : goal.returns-then-w-n
returns-then-w-n c =
    let args = c.args in
    record { o_after = λ a o. listen_out _ (data_of args.n a args.store.now args.input.now o) args.q args.w.cell (links_of args.own.now args.w.links) args.v (cell_out args.n a args.store.now args.input.now o args.w.cell c.if-w-n.true); sound_d = tt }

pub cell_at-requires : goal.cell_at-requires
cell_at-requires c = omega (arith, c.if-w-n.false, c.requires.room)

pub reach-requires : goal.reach-requires
reach-requires c = c.args.w.few

pub take_in-requires : goal.take_in-requires
take_in-requires c = (c.requires, c.if-w-n.false, reach_form _ _ _ (reach_as _ c.reach.ensures refl c.cell_at.ensures (taken c.reach.result c.ok_or.ensures.value c.in_ok-form.was)))

pub returns-in_err-form : goal.returns-in_err-form
returns-in_err-form c =
    let args = c.args in
    let k = none_exit c.reach.result c.ok_or.ensures.value c.in_err-form.was c.from_residual.ensures.1 in
    rw k.1 (record { o_after = λ a o. listen_not _ _ args.q args.w.cell _ args.v (cell_in args.n a args.store.now args.input.now o args.w.cell c.if-w-n.false) (look_data args.n a args.store.now args.input.now o args.w.cell c.if-w-n.false) (reach_as _ c.reach.ensures refl c.cell_at.ensures k.0); sound_d = tt })

pub returns-in-One : goal.returns-in-One
returns-in-One c =
    let args = c.args in
    record { o_after = λ a o. c.take_in.ensures.o_after a o ∙ listen_one _ _ args.q args.w.cell _ args.v (cell_in args.n a args.store.now args.input.now o args.w.cell c.if-w-n.false) (look_data args.n a args.store.now args.input.now o args.w.cell c.if-w-n.false) (reach_as _ c.reach.ensures refl c.cell_at.ensures (taken c.reach.result c.ok_or.ensures.value c.in_ok-form.was)) (sym c.line.ensures ∙ c.in-One.is); sound_d = c.take_in.ensures.sound_d }

pub returns-in-Other : goal.returns-in-Other
returns-in-Other c =
    let args = c.args in
    record { o_after = λ a o. listen_other _ _ args.q args.w.cell _ args.v (cell_in args.n a args.store.now args.input.now o args.w.cell c.if-w-n.false) (look_data args.n a args.store.now args.input.now o args.w.cell c.if-w-n.false) (reach_as _ c.reach.ensures refl c.cell_at.ensures (taken c.reach.result c.ok_or.ensures.value c.in_ok-form.was)) (sym c.line.ensures ∙ c.in-Other.is); sound_d = tt }

pub returns-in-Not : goal.returns-in-Not
returns-in-Not c =
    let args = c.args in
    record { o_after = λ a o. listen_stray _ _ args.q args.w.cell _ args.v (cell_in args.n a args.store.now args.input.now o args.w.cell c.if-w-n.false) (look_data args.n a args.store.now args.input.now o args.w.cell c.if-w-n.false) (reach_as _ c.reach.ensures refl c.cell_at.ensures (taken c.reach.result c.ok_or.ensures.value c.in_ok-form.was)) (sym c.line.ensures ∙ c.in-Not.is); sound_d = tt }
