-- Only two numbers are logical values.
use mathlib.Core.Path.{refl, ap, ◌∙◌}
use native.Mathlib.Omega.{arith}
use Prim.Native.Nat.{ℕ}
use lib.Dec.{eqb}
use Rattle.reals.specs.declared.Value.TheVariants.{Truth}
use Rattle.machine.specs.Data.{push}
use Rattle.machine.specs.Instructions.{low}
use Rattle.machine.specs.model.Holding.{lifted, own_of}
use Rattle.machine.proofs.Works.{push_is}
use Rattle.machine.proofs.Execs.{strayed, strayed_sound, do_stray, plain_done, did_quiet, lacks_yes, lacks_no, obeyed, obeyed_none, logical_none, logical_is}
use Rattle.machine.proofs.steps.logical.Goals as goal

pub returns-then-b-gt1 : goal.returns-then-b-gt1
returns-then-b-gt1 c =
    let args = c.args in
    record { o_after = λ i o. strayed c.stray.ensures _ _ i o ∙ obeyed_none _ args.at _ _ _ (logical_none args.q (low args.v) (rw c.low-b.ensures at c.if-b-gt1.true)); sound_g = λ o h. strayed_sound c.stray.ensures _ _ o o refl }

pub lacks-requires : goal.lacks-requires
lacks-requires c = (c.requires.1.many, omega arith)

pub returns-then-lacks : goal.returns-then-lacks
returns-then-lacks c =
    let args = c.args in
    record { o_after = λ i o. strayed c.stray-then-lacks.ensures _ _ i o ∙ do_stray _ args.at _ _ _ (push args.q (Truth (eqb (low args.v) 1))) (lacks_yes (c.lacks.ensures args.store.now i o) c.if-lacks.true) ∙ obeyed _ args.at _ _ _ (logical_is args.q (low args.v) (rw c.low-b.ensures at c.if-b-gt1.false)); sound_g = λ o h. strayed_sound c.stray-then-lacks.ensures _ _ o o refl }

pub new_cell-requires : goal.new_cell-requires
new_cell-requires c = (c.requires.0, tt)

pub returns : goal.returns
returns c =
    let args = c.args in
    record { o_after = λ i o. c.lift.ensures.o_value c.new_cell.new.store i o args.own.now ∙ ap (lifted _ _) (c.new_cell.ensures.o_after (own_of args.own.now args.live) i o ∙ push_is _ _ args.q (ap (λ (n : ℕ). Truth (eqb n 1)) c.low-b.ensures)) ∙ plain_done _ args.at _ _ _ (push args.q (Truth (eqb (low args.v) 1))) (lacks_no (c.lacks.ensures args.store.now i o) c.if-lacks.false) refl ∙ obeyed _ args.at _ _ _ (logical_is args.q (low args.v) (rw c.low-b.ensures at c.if-b-gt1.false)); sound_g = λ o h. c.lift.ensures.sound_g c.new_cell.new.store o o args.own.now (did_quiet args.n c.new_cell.result c.new_cell.new.store o c.new_cell.ensures.sound_d h) c.requires.1 }
