-- A logical value decides.
use mathlib.Core.Path.{refl, sym, ◌∙◌}
use mathlib.Core.Logic.{⊎_elim}
use Rattle.machine.proofs.Told.{left_yes, left_no, left_whole, left_real, unhold_sound}
use Rattle.machine.proofs.Exits.{err_exit, turned_value, troubled_t, troubled_valued, trouble_sound_t}
use Rattle.machine.proofs.loops.decided.Goals as goal

pub overflow_sub-n : goal.overflow_sub-n
overflow_sub-n c = c.requires

pub returns-then-b : goal.returns-then-b
returns-then-b c =
    let args = c.args in
    record { o_value = λ a s i o. left_yes args.n a s i o args.q args.r (turned_value args.q args.r (sym c.turned.ensures ∙ c.in_ok-v.was)) c.in-Truth.is c.if-b.true c.requires; sound_t = λ s g. (unhold_sound args.n s g, refl) }

pub returns-else-b : goal.returns-else-b
returns-else-b c =
    let args = c.args in
    record { o_value = λ a s i o. left_no args.n a s i o args.q args.r (turned_value args.q args.r (sym c.turned.ensures ∙ c.in_ok-v.was)) c.in-Truth.is c.if-b.false; sound_t = λ s g. (g, refl) }

pub returns-in-Whole : goal.returns-in-Whole
returns-in-Whole c =
    let args = c.args in
    ⊎_elim
    (λ p. record { o_value = λ a s i o. left_whole args.n a s i o args.q args.r (turned_value args.q args.r (sym c.turned.ensures ∙ c.in_ok-v.was)) p.1; sound_t = λ s g. tt })
    (λ p. record { o_value = λ a s i o. left_real args.n a s i o args.q args.r (turned_value args.q args.r (sym c.turned.ensures ∙ c.in_ok-v.was)) p.1; sound_t = λ s g. tt })
    c.in-Whole.is

pub returns-in_err-v : goal.returns-in_err-v
returns-in_err-v c =
    let args = c.args in
    let f = c.in_err-v.field-0.0 in
    rw (err_exit c.from_residual.ensures.1) (record { o_value = λ a s i o. troubled_t f a s i o ∙ troubled_valued _ args.q _ args.r f (sym c.turned.ensures ∙ c.in_err-v.was); sound_t = λ s g. trouble_sound_t args.n f s })
