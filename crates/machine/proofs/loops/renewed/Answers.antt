-- The sum, or its fault.
use mathlib.Core.Path.{sym, subst, ◌∙◌}
use Rattle.reals.specs.model.Stored.{FittingO}
use Rattle.machine.proofs.Kept.{valued_is}
use Rattle.machine.proofs.Exits.{err_exit, turned_value, troubled_d, troubled_valued, trouble_sound}
use Rattle.machine.proofs.loops.renewed.Goals as goal

pub renew-requires : goal.renew-requires
renew-requires c = let args = c.args in (c.requires.0, c.requires.1, c.requires.2, c.requires.3, subst FittingO (turned_value args.q args.r (sym c.turned.ensures ∙ c.in_ok-s.was)) c.requires.4)

pub returns : goal.returns
returns c = let args = c.args in record { o_after = λ a i o. c.renew.ensures.o_after a i o ∙ valued_is _ _ _ _ (turned_value args.q args.r (sym c.turned.ensures ∙ c.in_ok-s.was)); sound_d = c.renew.ensures.sound_d }

pub returns-in_err-s : goal.returns-in_err-s
returns-in_err-s c =
    let args = c.args in
    let f = c.in_err-s.field-0.0 in
    rw (err_exit c.from_residual.ensures.1) (record { o_after = λ a i o. troubled_d f a args.store.now i o ∙ troubled_valued _ args.q _ args.r f (sym c.turned.ensures ∙ c.in_err-s.was); sound_d = trouble_sound args.n f args.store.now })
