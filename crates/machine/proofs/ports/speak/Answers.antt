-- The channel is 1, another one or none.
use mathlib.Core.Path.{refl, sym, ◌∙◌}
use Rattle.machine.proofs.Works.{speak_one, speak_other, speak_stray}
use Rattle.machine.proofs.ports.speak.Goals as goal

pub returns-in-One : goal.returns-in-One
returns-in-One c = record { output_after = λ a s i. c.put_out.ensures.output_after a s i ∙ speak_one _ _ c.args.q _ c.args.v (sym c.line.ensures ∙ c.in-One.is); sound_o = c.put_out.ensures.sound_o }

pub returns-in-Other : goal.returns-in-Other
returns-in-Other c = record { output_after = λ a s i. speak_other _ _ c.args.q _ c.args.v (sym c.line.ensures ∙ c.in-Other.is); sound_o = λ s g. refl }

pub returns-in-Not : goal.returns-in-Not
returns-in-Not c = record { output_after = λ a s i. speak_stray _ _ c.args.q _ c.args.v (sym c.line.ensures ∙ c.in-Not.is); sound_o = λ s g. refl }
