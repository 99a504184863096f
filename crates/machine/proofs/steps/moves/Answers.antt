-- One line for each instruction.
use mathlib.Core.Path.{refl, ◌∙◌}
use native.Mathlib.Omega.{arith}
use Rattle.machine.specs.Instructions.{high, mid, low}
use Rattle.machine.proofs.Execs.{obeyed, obeyed_as, fate_kept, fate_gone, same_fate}
use Rattle.machine.proofs.Decode.{code_5, code_6, code_7, code_8, code_9, code_10, code_lend, next_up}
use Rattle.machine.proofs.steps.moves.Goals as goal

pub returns-in-5 : goal.returns-in-5
returns-in-5 c =
    let args = c.args in
    record { on_moved = λ i o. c.call.ensures.o_after args.store.now i o ∙ same_fate _ args.at _ _ _ args.q (low args.v) (high args.v) (mid args.v) fate_kept ∙ obeyed _ args.at _ _ _ (code_5 args.k args.q args.v c.in-5.is); on_moved_2 = λ o h. c.call.ensures.sound_g args.store.now o c.requires.0 h }

pub returns-in-6 : goal.returns-in-6
returns-in-6 c =
    let args = c.args in
    record { on_moved = λ i o. c.call-in-6.ensures.o_after args.store.now i o ∙ same_fate _ args.at _ _ _ args.q (low args.v) (high args.v) (mid args.v) fate_gone ∙ obeyed _ args.at _ _ _ (code_6 args.k args.q args.v c.in-6.is); on_moved_2 = λ o h. c.call-in-6.ensures.sound_g args.store.now o c.requires.0 h }

pub returns-in-7 : goal.returns-in-7
returns-in-7 c =
    let args = c.args in
    record { on_moved = λ i o. c.leave.ensures.o_after i o ∙ obeyed_as _ args.at _ _ _ (code_7 args.k args.q args.v c.in-7.is); on_moved_2 = c.leave.ensures.sound_g }

pub returns-in-8 : goal.returns-in-8
returns-in-8 c =
    let args = c.args in
    record { on_moved = λ i o. c.go.ensures.o_after args.store.now i o ∙ obeyed _ args.at _ _ _ (code_8 args.k args.q args.v c.in-8.is); on_moved_2 = λ o h. c.go.ensures.sound_g args.store.now o c.requires.0 h }

pub returns-in-9 : goal.returns-in-9
returns-in-9 c =
    let args = c.args in
    record { on_moved = λ i o. c.next.ensures.o_after args.store.now i o ∙ obeyed _ args.at _ _ _ (code_9 args.k args.q args.v c.in-9.is); on_moved_2 = λ o h. c.next.ensures.sound_g args.store.now o c.requires.0 h }

pub returns-in-10 : goal.returns-in-10
returns-in-10 c =
    let args = c.args in
    record { on_moved = λ i o. c.unless.ensures.o_value i o ∙ obeyed _ args.at _ _ _ (code_10 args.k args.q args.v c.in-10.is); on_moved_2 = c.unless.ensures.sound_g }

pub returns-in-43 : goal.returns-in-43
returns-in-43 c =
    let args = c.args in
    record { on_moved = λ i o. c.lend.ensures.o_after i o ∙ obeyed _ args.at _ _ _ (code_lend args.k args.q args.v c.in-43.is); on_moved_2 = c.lend.ensures.sound_g }

pub returns-in_default : goal.returns-in_default
returns-in_default c = let r = c.in_default.in_default-own.rest.0 in record { on_moved = refl; on_moved_2 = record { control = λ h. next_up 10 _ (next_up 9 _ (next_up 8 _ (next_up 7 _ (next_up 6 _ (next_up 5 _ h r.0.0.0.0.0.1) r.0.0.0.0.1) r.0.0.0.1) r.0.0.1) r.0.1) r.1; names = λ h. absurd (omega (arith, h, c.in_default.if-k-lt40-own.true)) } }

pub returns-in_default-2 : goal.returns-in_default-2
returns-in_default-2 c = let r = c.in_default.in_default-own.rest.0 in record { on_moved = refl; on_moved_2 = record { control = λ h. next_up 10 _ (next_up 9 _ (next_up 8 _ (next_up 7 _ (next_up 6 _ (next_up 5 _ h r.0.0.0.0.0.1) r.0.0.0.0.1) r.0.0.0.1) r.0.0.1) r.0.1) r.1; names = λ h. next_up 43 _ c.in_default.if-k-lt43-own.false c.in_default.in_default-own.rest.1 } }
