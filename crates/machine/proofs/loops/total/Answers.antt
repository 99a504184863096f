-- The variable is read, and the step added.
use mathlib.Core.Path.{sym, ap, subst, ◌∙◌}
use native.Mathlib.Omega.{arith}
use Rattle.machine.specs.Run.{quiet}
use Rattle.machine.specs.Data.{good, valued, back, hold, unhold}
use Rattle.reals.specs.declared.Binary.TheVariants.{Plus}
use Rattle.reals.specs.model.Stored.{FittingO}
use Rattle.reals.specs.Values.{apply2}
use Rattle.reals.specs.declared.Outcome.{Outcome}
use Rattle.reals.proofs.Fits.{binary_fits}
use Rattle.machine.specs.model.Holding.{told, trace_of, data_of, links_of}
use Rattle.machine.proofs.Works.{read_out, read_is, turned_is}
use Rattle.machine.proofs.Kept.{cell_in, cell_out, look_data}
use Rattle.machine.proofs.Exits.{err_exit, troubled_turned, troubled_d, trouble_sound}
use Rattle.machine.proofs.loops.total.Goals as goal

pub returns-then-w-n : goal.returns-then-w-n
returns-then-w-n c =
    let args = c.args in
    record { o_after = λ a i o. read_out _ (data_of args.n a args.store.now i o) args.q args.w.cell (links_of args.own.now args.w.links) (λ v. valued args.q (λ u. good quiet (back u (hold args.x (unhold (data_of args.n a args.store.now i o))))) (apply2 Plus v args.x)) (cell_out args.n a args.store.now i o args.w.cell c.if-w-n.true); sound_d = tt }

pub cell_at-requires : goal.cell_at-requires
cell_at-requires c = omega (arith, c.if-w-n.false, c.requires.0.room)

pub reading-requires : goal.reading-requires
reading-requires c = c.args.w.few

pub renewed-requires : goal.renewed-requires
renewed-requires c = (c.requires.0, c.requires.1, c.requires.2, c.requires.3, subst FittingO (sym c.binary.ensures) (binary_fits _ _ _))

pub returns : goal.returns
returns c =
    let args = c.args in
    record { o_after = λ a i o. c.renewed.ensures.o_after a i o ∙ ap (λ (w : Outcome). told (trace_of args.n o) (valued args.q (λ u. good quiet (back u (hold args.x (unhold (data_of args.n a args.store.now i o))))) w)) c.binary.ensures ∙ turned_is _ _ (sym c.reading.ensures ∙ c.in_ok-v.was) ∙ read_is _ _ args.q args.w.cell _ _ (cell_in args.n a args.store.now i o args.w.cell c.if-w-n.false) (look_data args.n a args.store.now i o args.w.cell c.if-w-n.false ∙ sym c.cell_at.ensures); sound_d = c.renewed.ensures.sound_d }

pub returns-in_err-v : goal.returns-in_err-v
returns-in_err-v c =
    let args = c.args in
    rw (err_exit c.from_residual.ensures.1) (record { o_after = λ a i o. troubled_d (c.in_err-v.field-0.0) a args.store.now i o ∙ troubled_turned _ _ (c.in_err-v.field-0.0) (sym c.reading.ensures ∙ c.in_err-v.was) ∙ read_is _ _ args.q args.w.cell _ _ (cell_in args.n a args.store.now i o args.w.cell c.if-w-n.false) (look_data args.n a args.store.now i o args.w.cell c.if-w-n.false ∙ sym c.cell_at.ensures); sound_d = trouble_sound args.n c.in_err-v.field-0.0 args.store.now })
