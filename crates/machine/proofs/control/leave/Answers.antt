-- Only three numbers are types.
use mathlib.Core.Path.{refl, ◌∙◌}
use Rattle.machine.specs.Instructions.{low}
use Rattle.machine.proofs.Execs.{strayed, strayed_sound, obeyed, obeyed_none, form_none, form_some}
use Rattle.machine.proofs.control.leave.Goals as goal

pub returns-then-f-gt2 : goal.returns-then-f-gt2
returns-then-f-gt2 c = record { o_after = λ i o. strayed c.stray.ensures _ _ i o ∙ obeyed_none _ c.args.at _ _ _ (form_none (low c.args.v) _ (rw c.low-f.ensures at c.if-f-gt2.true)); sound_g = λ o h. strayed_sound c.stray.ensures _ _ o o refl }

pub returns : goal.returns
returns c = record { o_after = λ i o. c.end.ensures.o_after i o ∙ obeyed _ c.args.at _ _ _ (rw c.low-f.ensures (form_some (low c.args.v) _ (rw c.low-f.ensures at c.if-f-gt2.false))); sound_g = c.end.ensures.sound_g }
