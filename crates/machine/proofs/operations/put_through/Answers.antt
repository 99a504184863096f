-- The value goes through the formals, and to the cell.
use mathlib.Core.Path.{sym, ◌∙◌}
use Rattle.machine.proofs.Works.{turned_fine}
use Rattle.machine.proofs.Turns.{in_fits, turned_holds}
use Rattle.machine.proofs.Exits.{err_exit, troubled_turned, troubled_d, trouble_sound}
use Rattle.machine.proofs.operations.put_through.Goals as goal

pub put-requires : goal.put-requires
put-requires c = (c.requires.0, c.requires.1, turned_holds c.inward.ensures c.in_ok-u.was (in_fits _ _ _ _ c.requires.2))

pub returns : goal.returns
returns c = record { o_after = λ a i o. c.put.ensures.o_after a i o ∙ turned_fine _ _ (sym c.inward.ensures ∙ c.in_ok-u.was); sound_d = c.put.ensures.sound_d }

pub returns-in_err-u : goal.returns-in_err-u
returns-in_err-u c =
    let args = c.args in
    rw (err_exit c.from_residual.ensures.1) (record { o_after = λ a i o. troubled_d (c.in_err-u.field-0.0) a args.store.now i o ∙ troubled_turned _ _ (c.in_err-u.field-0.0) (sym c.inward.ensures ∙ c.in_err-u.was); sound_d = trouble_sound args.n c.in_err-u.field-0.0 args.store.now })
