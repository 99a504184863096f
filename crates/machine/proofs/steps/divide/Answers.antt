-- Two values are above the first cell of the activation.
use mathlib.Core.Path.{refl, ap, ◌∙◌}
use native.Mathlib.Omega.{arith}
use Rattle.machine.specs.model.Holding.{lifted, own_of}
use Rattle.reals.specs.declared.Binary.TheVariants.{Divide}
use Rattle.machine.specs.Data.{binary}
use Rattle.machine.proofs.Execs.{strayed, strayed_sound, do_stray, plain_done, did_quiet, lacks_yes, lacks_no}
use Rattle.machine.proofs.steps.divide.Goals as goal

pub lacks-requires : goal.lacks-requires
lacks-requires c = (c.requires.1.many, omega arith)

pub returns-then-lacks : goal.returns-then-lacks
returns-then-lacks c =
    let args = c.args in
    record { o_after = λ i o. strayed c.stray.ensures _ _ i o ∙ do_stray _ args.at _ _ _ (binary args.q Divide) (lacks_yes (c.lacks.ensures args.store.now i o) c.if-lacks.true); sound_g = λ o h. strayed_sound c.stray.ensures _ _ o o refl }

pub returns : goal.returns
returns c =
    let args = c.args in
    record { o_after = λ i o. c.lift.ensures.o_value c.binary.new.store i o args.own.now ∙ ap (lifted _ _) (c.binary.ensures.does (own_of args.own.now args.live) i o) ∙ plain_done _ args.at _ _ _ (binary args.q Divide) (lacks_no (c.lacks.ensures args.store.now i o) c.if-lacks.false) refl; sound_g = λ o h. c.lift.ensures.sound_g c.binary.new.store o o args.own.now (did_quiet args.n c.binary.result c.binary.new.store o c.binary.ensures.sound_d h) c.requires.1 }
