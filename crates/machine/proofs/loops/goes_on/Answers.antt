-- The variable is read, and the test made.
use mathlib.Core.Path.{sym, ap, ◌∙◌}
use native.Mathlib.Omega.{arith}
use Rattle.reals.specs.declared.Outcome.{Outcome}
use Rattle.reals.specs.Values.{leaves}
use Rattle.machine.specs.Data.{valued, picking, yea, nay, unhold}
use Rattle.machine.specs.model.Holding.{told, trace_of, data_of, links_of}
use Rattle.machine.proofs.Works.{read_out, read_is, turned_is}
use Rattle.machine.proofs.Kept.{cell_in, cell_out, look_data}
use Rattle.machine.proofs.Exits.{err_exit, troubled_turned, troubled_t, trouble_sound_t}
use Rattle.machine.proofs.loops.goes_on.Goals as goal

pub returns-then-w-n : goal.returns-then-w-n
returns-then-w-n c =
    let args = c.args in
    record { o_value = λ a i o. read_out _ (data_of args.n a args.store.now i o) args.q args.w.cell (links_of args.own.now args.w.links) (λ v. valued args.q (λ b. picking b (nay (unhold (data_of args.n a args.store.now i o))) (yea (data_of args.n a args.store.now i o))) (leaves v args.x args.y)) (cell_out args.n a args.store.now i o args.w.cell c.if-w-n.true); sound_t = tt }

pub cell_at-requires : goal.cell_at-requires
cell_at-requires c = omega (arith, c.if-w-n.false, c.requires.0.room)

pub reading-requires : goal.reading-requires
reading-requires c = c.args.w.few

pub decided-requires : goal.decided-requires
decided-requires c = c.requires.1

pub returns : goal.returns
returns c =
    let args = c.args in
    record { o_value = λ a i o. c.decided.ensures.o_value a args.store.now i o ∙ ap (λ (w : Outcome). told (trace_of args.n o) (valued args.q (λ b. picking b (nay (unhold (data_of args.n a args.store.now i o))) (yea (data_of args.n a args.store.now i o))) w)) c.leaves.ensures ∙ turned_is _ _ (sym c.reading.ensures ∙ c.in_ok-v.was) ∙ read_is _ _ args.q args.w.cell _ _ (cell_in args.n a args.store.now i o args.w.cell c.if-w-n.false) (look_data args.n a args.store.now i o args.w.cell c.if-w-n.false ∙ sym c.cell_at.ensures); sound_t = c.decided.ensures.sound_t args.store.now c.requires.0 }

pub returns-in_err-v : goal.returns-in_err-v
returns-in_err-v c =
    let args = c.args in
    rw (err_exit c.from_residual.ensures.1) (record { o_value = λ a i o. troubled_t (c.in_err-v.field-0.0) a args.store.now i o ∙ troubled_turned _ _ (c.in_err-v.field-0.0) (sym c.reading.ensures ∙ c.in_err-v.was) ∙ read_is _ _ args.q args.w.cell _ _ (cell_in args.n a args.store.now i o args.w.cell c.if-w-n.false) (look_data args.n a args.store.now i o args.w.cell c.if-w-n.false ∙ sym c.cell_at.ensures); sound_t = trouble_sound_t args.n c.in_err-v.field-0.0 args.store.now })
