-- What the cell holds, through the formals.
use mathlib.Core.Path.{sym, subst, ◌∙◌}
use native.Mathlib.Omega.{arith}
use Rattle.reals.specs.model.Stored.{FittingC}
use Rattle.machine.proofs.Works.{load_out, load_is, turned_is}
use Rattle.machine.proofs.Turns.{read_as, read_fits, turned_holds}
use Rattle.machine.proofs.Stacks.{cell_fits}
use Rattle.machine.proofs.Kept.{cell_in, cell_out, look_data}
use Rattle.machine.proofs.Exits.{err_exit, troubled_turned, troubled_d, trouble_sound}
use Rattle.machine.proofs.operations.load.Goals as goal

pub returns-then-w-n : goal.returns-then-w-n
returns-then-w-n c =
    let args = c.args in
    record { does = λ a i o. load_out _ _ args.q args.w.cell _ (cell_out args.n a args.store.now i o args.w.cell c.if-w-n.true); sound_d = tt }

pub cell_at-x-requires : goal.cell_at-x-requires
cell_at-x-requires c = omega (arith, c.if-w-n.false, c.requires.room)

pub new_cell-requires : goal.new_cell-requires
new_cell-requires c = (c.requires, turned_holds c.reading.ensures c.in_ok-v.was (read_fits _ _ _ _ (subst FittingC (sym c.cell_at-x.ensures) (cell_fits c.args.store.now c.args.w.cell))))

pub returns : goal.returns
returns c =
    let args = c.args in
    record { does = λ a i o. c.new_cell.ensures.o_after a i o ∙ turned_is _ _ (sym (read_as _ _ c.reading.ensures c.form_in.ensures c.cell_at-x.ensures) ∙ c.in_ok-v.was) ∙ load_is _ _ args.q args.w.cell _ (cell_in args.n a args.store.now i o args.w.cell c.if-w-n.false) (look_data args.n a args.store.now i o args.w.cell c.if-w-n.false); sound_d = c.new_cell.ensures.sound_d }

pub returns-in_err-v : goal.returns-in_err-v
returns-in_err-v c =
    let args = c.args in
    rw (err_exit c.from_residual.ensures.1) (record { does = λ a i o. troubled_d (c.in_err-v.field-0.0) a args.store.now i o ∙ troubled_turned _ _ (c.in_err-v.field-0.0) (sym (read_as _ _ c.reading.ensures c.form_in.ensures c.cell_at-x.ensures) ∙ c.in_err-v.was) ∙ load_is _ _ args.q args.w.cell _ (cell_in args.n a args.store.now i o args.w.cell c.if-w-n.false) (look_data args.n a args.store.now i o args.w.cell c.if-w-n.false); sound_d = trouble_sound args.n c.in_err-v.field-0.0 args.store.now })
