-- The type in the operand, and the cell.
use mathlib.Core.Path.{refl, ap, ◌∙◌}
use native.Mathlib.Omega.{arith}
use Rattle.machine.specs.Data.{turn}
use Rattle.machine.specs.Instructions.{DO, low}
use Rattle.machine.specs.model.Holding.{lifted, own_of, typed_of}
use Rattle.machine.proofs.Execs.{strayed, strayed_sound, do_stray, plain_done, did_quiet, lacks_yes, lacks_no, obeyed, obeyed_none, form_not, form_is}
use Rattle.machine.proofs.steps.turn.Goals as goal

pub lacks-requires : goal.lacks-requires
lacks-requires c = (c.requires.1.many, omega arith)

pub returns-then-lacks : goal.returns-then-lacks
returns-then-lacks c =
    let args = c.args in
    record { o_after = λ i o. strayed c.stray-then-lacks.ensures _ _ i o ∙ do_stray _ args.at _ _ _ (turn args.q c.in-Some.form) (lacks_yes (c.lacks.ensures args.store.now i o) c.if-lacks.true) ∙ obeyed _ args.at _ _ _ (form_is (low args.v) (λ t. DO (turn args.q t)) (c.typed.ensures ∙ ap typed_of c.low.ensures) c.in-Some.is); sound_g = λ o h. strayed_sound c.stray-then-lacks.ensures _ _ o o refl }

pub turn-requires : goal.turn-requires
turn-requires c = c.requires.0

pub returns-in-None : goal.returns-in-None
returns-in-None c =
    let args = c.args in
    record { o_after = λ i o. strayed c.stray.ensures _ _ i o ∙ obeyed_none _ args.at _ _ _ (form_not (low args.v) (λ t. DO (turn args.q t)) (c.typed.ensures ∙ ap typed_of c.low.ensures) c.in-None.is); sound_g = λ o h. strayed_sound c.stray.ensures _ _ o o refl }

pub returns-else-lacks : goal.returns-else-lacks
returns-else-lacks c =
    let args = c.args in
    record { o_after = λ i o. c.lift.ensures.o_value c.turn.new.store i o args.own.now ∙ ap (lifted _ _) (c.turn.ensures.does (own_of args.own.now args.live) i o) ∙ plain_done _ args.at _ _ _ (turn args.q c.in-Some.form) (lacks_no (c.lacks.ensures args.store.now i o) c.if-lacks.false) refl ∙ obeyed _ args.at _ _ _ (form_is (low args.v) (λ t. DO (turn args.q t)) (c.typed.ensures ∙ ap typed_of c.low.ensures) c.in-Some.is); sound_g = λ o h. c.lift.ensures.sound_g c.turn.new.store o o args.own.now (did_quiet args.n c.turn.result c.turn.new.store o c.turn.ensures.sound_d h) c.requires.1 }
