-- Where the store began.
use mathlib.Core.Path.{refl, ◌∙◌}
use Rattle.machine.proofs.Execs.{strayed, strayed_sound}
use Rattle.machine.proofs.Named.{refuse_none, refuse_done}
use Rattle.reals.proofs.Signed.{bits_pos}
use Rattle.machine.proofs.control.refuse.Goals as goal

pub returns-then-live-eq0 : goal.returns-then-live-eq0
returns-then-live-eq0 c =
    let args = c.args in
    record { o_value = λ n s i o. strayed c.stray.ensures s _ i o ∙ refuse_none _ args.at _ args.own.now args.live _ c.if-live-eq0.true; sound_g = λ s o. strayed_sound c.stray.ensures s _ o o refl }

pub returns : goal.returns
returns c =
    let args = c.args in
    record { o_value = λ n s i o. refuse_done _ args.at _ args.own.now args.live _ (bits_pos _ c.if-live-eq0.false) c.word.ensures; sound_g = λ s o. refl }
