-- The channel and the value are above the first cell of the activation.
use mathlib.Core.Path.{refl, ap, ◌∙◌}
use native.Mathlib.Omega.{arith}
use Rattle.reals.specs.declared.Form.TheVariants.{Reals}
use Rattle.machine.specs.Data.{send}
use Rattle.machine.specs.model.Holding.{lifted, own_of}
use Rattle.machine.proofs.Execs.{strayed, strayed_sound, do_stray, plain_done, lacks_yes, lacks_no}
use Rattle.machine.proofs.steps.outreal.Goals as goal

pub lacks-requires : goal.lacks-requires
lacks-requires c = (c.requires.1.many, omega arith)

pub returns-then-lacks : goal.returns-then-lacks
returns-then-lacks c =
    let args = c.args in
    record { output_after = λ i. strayed c.stray.ensures _ _ i _ ∙ do_stray _ args.at _ _ _ (send args.q Reals) (lacks_yes (c.lacks.ensures args.store.now i args.output.now) c.if-lacks.true); sound_g = strayed_sound c.stray.ensures _ _ _ _ refl }

pub send-requires : goal.send-requires
send-requires c = (c.requires.0, c.requires.2)

pub returns : goal.returns
returns c =
    let args = c.args in
    record { output_after = λ i. c.lift.ensures.o_value args.store.now i c.send.new.output args.own.now ∙ ap (lifted _ _) (c.send.ensures.output_after (own_of args.own.now args.live) i) ∙ plain_done _ args.at _ _ _ (send args.q Reals) (lacks_no (c.lacks.ensures args.store.now i args.output.now) c.if-lacks.false) refl; sound_g = c.lift.ensures.sound_g args.store.now args.output.now c.send.new.output args.own.now c.send.ensures.sound_o c.requires.1 }
