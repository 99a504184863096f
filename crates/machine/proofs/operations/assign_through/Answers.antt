-- The value goes through the formals and to the cell, and stays.
use mathlib.Core.Path.{sym, ap, ◌∙◌}
use native.Mathlib.Omega.{arith}
use Rattle.machine.specs.Data.{Data, back}
use Rattle.machine.specs.model.Holding.{fine, trace_of}
use Rattle.machine.proofs.Works.{turned_fine}
use Rattle.machine.proofs.Turns.{in_fits, turned_holds}
use Rattle.machine.proofs.Kept.{put_is, put_sound, put_room}
use Rattle.machine.proofs.Exits.{err_exit, troubled_turned, troubled_d, trouble_sound}
use Rattle.machine.proofs.operations.assign_through.Goals as goal

pub put_cell-requires : goal.put_cell-requires
put_cell-requires c = omega (arith, c.requires.1, c.requires.0.room)

pub back-requires : goal.back-requires
back-requires c = (put_sound _ _ c.put_cell.ensures c.requires.0 c.requires.1, omega (arith, put_room _ _ c.put_cell.ensures c.requires.0, c.requires.3), c.requires.2)

pub returns : goal.returns
returns c =
    let args = c.args in
    record { o_after = λ a i o. c.back.ensures.o_after a i o ∙ ap (λ (d : Data). fine (back args.v d) (trace_of args.n o)) (put_is args.n a args.store.now i o c.in_ok-u.u c.put_cell.ensures (turned_holds c.inward.ensures c.in_ok-u.was (in_fits _ _ _ _ c.requires.2)) c.requires.1 c.requires.0.room) ∙ turned_fine _ _ (sym c.inward.ensures ∙ c.in_ok-u.was); sound_d = c.back.ensures.sound_d }

pub returns-in_err-u : goal.returns-in_err-u
returns-in_err-u c =
    let args = c.args in
    rw (err_exit c.from_residual.ensures.1) (record { o_after = λ a i o. troubled_d (c.in_err-u.field-0.0) a args.store.now i o ∙ troubled_turned _ _ (c.in_err-u.field-0.0) (sym c.inward.ensures ∙ c.in_err-u.was); sound_d = trouble_sound args.n c.in_err-u.field-0.0 args.store.now })
