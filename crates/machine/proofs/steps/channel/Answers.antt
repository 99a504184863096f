-- The channel is above the first cell of the activation.
use mathlib.Core.Path.{refl, ap, ◌∙◌}
use native.Mathlib.Omega.{arith}
use Rattle.machine.specs.model.Holding.{lifted, own_of}
use Rattle.machine.specs.Data.{channel}
use Rattle.machine.proofs.Execs.{strayed, strayed_sound, do_stray, plain_done, did_quiet, lacks_yes, lacks_no}
use Rattle.machine.proofs.steps.channel.Goals as goal

pub lacks-requires : goal.lacks-requires
lacks-requires c = (c.requires.1.many, omega arith)

pub returns-then-lacks : goal.returns-then-lacks
returns-then-lacks c =
    let args = c.args in
    record { o_after = λ i o. strayed c.stray.ensures _ _ i o ∙ do_stray _ args.at _ _ _ (channel args.q) (lacks_yes (c.lacks.ensures args.store.now i o) c.if-lacks.true); sound_g = λ o h. strayed_sound c.stray.ensures _ _ o o refl }

pub returns : goal.returns
returns c =
    let args = c.args in
    record { o_after = λ i o. c.lift.ensures.o_value c.channel.new.store i o args.own.now ∙ ap (lifted _ _) (c.channel.ensures.does (own_of args.own.now args.live) i o) ∙ plain_done _ args.at _ _ _ (channel args.q) (lacks_no (c.lacks.ensures args.store.now i o) c.if-lacks.false) refl; sound_g = λ o h. c.lift.ensures.sound_g c.channel.new.store o o args.own.now (did_quiet args.n c.channel.result c.channel.new.store o c.channel.ensures.sound_d h) c.requires.1 }
