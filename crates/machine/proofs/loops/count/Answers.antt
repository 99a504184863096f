-- Both are numbers.
use mathlib.Core.Path.{ap, ◌∙◌}
use Rattle.reals.specs.declared.Form.TheVariants.{Wholes}
use Rattle.machine.specs.Data.{suits}
use Rattle.machine.specs.model.Holding.{data_of}
use Rattle.machine.proofs.Works.{yes_true, not_true, counting_no, counting_yes}
use Rattle.machine.proofs.loops.count.Goals as goal

pub returns-then-not-suits : goal.returns-then-not-suits
returns-then-not-suits c =
    let args = c.args in
    record { o_value = λ a i o. counting_no _ (data_of args.n a args.store.now i o) args.y _ (not_true (c.suits.ensures ∙ ap (suits Wholes) c.form_of.ensures) c.if-not-suits.true-raw); sound_t = tt }

pub returns-then-not-suits-2 : goal.returns-then-not-suits-2
returns-then-not-suits-2 c =
    let args = c.args in
    record { o_value = λ a i o. counting_no _ (data_of args.n a args.store.now i o) args.x _ (not_true (c.suits-2.ensures ∙ ap (suits Wholes) c.form_of-2.ensures) c.if-not-suits-2.true-raw) ∙ counting_yes _ (data_of args.n a args.store.now i o) args.y _ (yes_true (c.suits.ensures ∙ ap (suits Wholes) c.form_of.ensures) c.if-not-suits.false-raw); sound_t = tt }

pub returns : goal.returns
returns c =
    let args = c.args in
    record { o_value = λ a i o. c.goes_on.ensures.o_value a i o ∙ counting_yes _ (data_of args.n a args.store.now i o) args.x _ (yes_true (c.suits-2.ensures ∙ ap (suits Wholes) c.form_of-2.ensures) c.if-not-suits-2.false-raw) ∙ counting_yes _ (data_of args.n a args.store.now i o) args.y _ (yes_true (c.suits.ensures ∙ ap (suits Wholes) c.form_of.ensures) c.if-not-suits.false-raw); sound_t = c.goes_on.ensures.sound_t }
