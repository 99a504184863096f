-- One line for each instruction.
use mathlib.Core.Path.{refl, ◌∙◌}
use Rattle.machine.proofs.Execs.{strayed, strayed_sound, obeyed, obeyed_as, obeyed_none}
use Rattle.machine.proofs.Decode.{code_divide, code_outreal, code_logical, code_high, code_as, code_none, next_up}
use Rattle.machine.proofs.steps.by_type.Goals as goal

pub returns-in-46 : goal.returns-in-46
returns-in-46 c =
    let args = c.args in
    record { output_after = λ i. c.divide.ensures.o_after i args.output.now ∙ obeyed _ args.at _ _ _ (code_divide args.k args.q args.v c.in-46.is); sound_g = c.divide.ensures.sound_g args.output.now c.requires.2 }

pub returns-in-47 : goal.returns-in-47
returns-in-47 c =
    let args = c.args in
    record { output_after = λ i. c.outreal.ensures.output_after i ∙ obeyed _ args.at _ _ _ (code_outreal args.k args.q args.v c.in-47.is); sound_g = c.outreal.ensures.sound_g }

pub returns-in-48 : goal.returns-in-48
returns-in-48 c =
    let args = c.args in
    record { output_after = λ i. c.logical.ensures.o_after i args.output.now ∙ obeyed_as _ args.at _ _ _ (code_logical args.k args.q args.v c.in-48.is); sound_g = c.logical.ensures.sound_g args.output.now c.requires.2 }

pub returns-in-49 : goal.returns-in-49
returns-in-49 c =
    let args = c.args in
    record { output_after = λ i. c.high_half.ensures.o_after i args.output.now ∙ obeyed _ args.at _ _ _ (code_high args.k args.q args.v c.in-49.is); sound_g = c.high_half.ensures.sound_g args.output.now c.requires.2 }

pub returns-in-50 : goal.returns-in-50
returns-in-50 c =
    let args = c.args in
    record { output_after = λ i. c.turn.ensures.o_after i args.output.now ∙ obeyed_as _ args.at _ _ _ (code_as args.k args.q args.v c.in-50.is); sound_g = c.turn.ensures.sound_g args.output.now c.requires.2 }

pub returns-in_default : goal.returns-in_default
returns-in_default c = let r = c.in_default.in_default-own.rest in record { output_after = λ i. strayed c.stray.ensures _ _ i _ ∙ obeyed_none _ c.args.at _ _ _ (code_none c.args.k c.args.q c.args.v (next_up 50 _ (next_up 49 _ (next_up 48 _ (next_up 47 _ (next_up 46 _ c.requires.4 r.0.0.0.0.1) r.0.0.0.1) r.0.0.1) r.0.1) r.1)); sound_g = strayed_sound c.stray.ensures _ _ _ _ refl }
