-- The value, or the fault.
use mathlib.Core.Path.{sym, subst, ◌∙◌}
use Rattle.reals.specs.model.Stored.{FittingO}
use Rattle.machine.proofs.Kept.{valued_is}
use Rattle.machine.proofs.Exits.{err_exit, turned_value, troubled_d, troubled_valued, trouble_sound}
use Rattle.machine.proofs.operations.give.Goals as goal

pub back-requires : goal.back-requires
back-requires c = let args = c.args in (c.requires.0, c.requires.1, subst FittingO (turned_value args.q args.r (sym c.turned.ensures ∙ c.in_ok-v.was)) c.requires.2)

pub returns : goal.returns
returns c = let args = c.args in record { o_after = λ a i o. c.back.ensures.o_after a i o ∙ valued_is _ _ _ _ (turned_value args.q args.r (sym c.turned.ensures ∙ c.in_ok-v.was)); sound_d = c.back.ensures.sound_d }

pub returns-in_err-v : goal.returns-in_err-v
returns-in_err-v c =
    let args = c.args in
    let f = c.in_err-v.field-0.0 in
    rw (err_exit c.from_residual.ensures.1) (record { o_after = λ a i o. troubled_d f a args.store.now i o ∙ troubled_valued _ args.q _ args.r f (sym c.turned.ensures ∙ c.in_err-v.was); sound_d = trouble_sound args.n f args.store.now })
