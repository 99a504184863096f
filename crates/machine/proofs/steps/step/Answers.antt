-- Both words are there, or there is no instruction.
use mathlib.Core.Path.{refl, ◌∙◌}
use Rattle.machine.proofs.Execs.{strayed, strayed_sound, step_none, step_some}
use Rattle.machine.proofs.steps.step.Goals as goal

pub returns-then-c-code : goal.returns-then-c-code
returns-then-c-code c = record { output_after = strayed c.stray.ensures _ _ _ _ ∙ step_none _ c.args.at _ _ _ c.args.code.now c.if-c-code.true; sound_g = strayed_sound c.stray.ensures _ _ _ _ refl }

pub returns : goal.returns
returns c = record { output_after = c.obey.ensures.output_after ∙ step_some _ c.args.at _ _ _ c.args.code.now c.if-c-code.false; sound_g = c.obey.ensures.sound_g }
