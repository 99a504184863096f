-- One line for each instruction.
use mathlib.Core.Path.{ap, ◌∙◌}
use native.Mathlib.Omega.{arith}
use Prim.Native.Nat.{◌+◌}
use mathlib.Core.Path.{◌≡◌}
use native.Mathlib.Numerals.{add-one}
use Rattle.machine.specs.model.Holding.{lifted, own_of}
use Rattle.machine.proofs.Works.{name_is}
use Rattle.machine.proofs.Execs.{did_quiet, obeyed}
use Rattle.machine.proofs.Named.{name_lifted}
use Rattle.machine.proofs.Decode.{code_name_lem, code_refuse, code_channel, next_up}
use Rattle.machine.proofs.steps.by_name.Goals as goal

pub new_cell-requires : goal.new_cell-requires
new_cell-requires c = (c.requires.0, omega (arith, c.requires.2))

pub returns-then-k-eq-NAME : goal.returns-then-k-eq-NAME
returns-then-k-eq-NAME c =
    let args = c.args in
    record { o_after = λ i o. c.lift.ensures.o_value c.new_cell.new.store i o args.own.now ∙ ap (lifted _ _) (c.new_cell.ensures.o_after (own_of args.own.now args.live) i o ∙ name_is _ _ args.q (args.at + 1)) ∙ name_lifted _ args.at _ _ _ args.q c.low.result (add-one args.at) ∙ obeyed _ args.at _ _ _ (rw c.low.ensures (code_name_lem args.k args.q args.v c.if-k-eq-NAME.true)); sound_g = λ o h. c.lift.ensures.sound_g c.new_cell.new.store o o args.own.now (did_quiet args.n c.new_cell.result c.new_cell.new.store o c.new_cell.ensures.sound_d h) c.requires.1 }

pub returns-then-k-eq-REFUSE : goal.returns-then-k-eq-REFUSE
returns-then-k-eq-REFUSE c =
    let args = c.args in
    record { o_after = λ i o. c.refuse.ensures.o_value args.n args.store.now i o ∙ obeyed _ args.at _ _ _ (code_refuse args.k args.q args.v c.if-k-eq-REFUSE.true); sound_g = λ o h. c.refuse.ensures.sound_g args.store.now o }

pub returns : goal.returns
returns c =
    let e : c.args.k ≡ 45 = omega (arith, c.requires.5.names (next_up 39 _ c.requires.3 c.if-k-eq-NAME.false), c.if-k-eq-REFUSE.false, c.requires.4) in
    record { o_after = λ i o. c.channel.ensures.o_after i o ∙ obeyed _ c.args.at _ _ _ (code_channel c.args.k c.args.q c.args.v e); sound_g = c.channel.ensures.sound_g }
