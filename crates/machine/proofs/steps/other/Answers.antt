-- One line for each instruction.
use mathlib.Core.Path.{refl, ap, ◌∙◌}
use native.Mathlib.Omega.{arith}
use Rattle.machine.specs.Instructions.{low, counted}
use Rattle.machine.specs.model.Holding.{lifted, own_of}
use Rattle.machine.proofs.Execs.{strayed, strayed_sound, obeyed, obeyed_as, obeyed_none, jump_goes, end_halts, enter_lifted, lifted_next, did_quiet}
use Rattle.machine.proofs.Decode.{code_0, code_1, code_2, code_3, code_4, code_11, code_13, code_14, code_16, code_act, next_up}
use Rattle.machine.proofs.steps.other.Goals as goal
use Rattle.machine.proofs.steps.other.Goals.{in_default-via-then-k-lt39, in_default-via-else-k-lt39+else-k-lt46}

pub open-requires : goal.open-requires
open-requires c = (c.requires.0, omega (arith, c.ranges.v.fits))

pub by_name-requires : goal.by_name-requires
by_name-requires c = (c.requires.0, c.requires.1, c.requires.3, c.in-39-to-45.if-k-lt39-own.false, c.in-39-to-45.if-k-lt46-own.true, c.requires.4)

pub act-requires : goal.act-requires
act-requires c = let r = c.in_default-1.rest.0.0.0 in (c.requires.0, c.requires.1, c.requires.2, c.requires.3, next_up 11 _ (c.requires.4.control (next_up 4 _ (next_up 3 _ (next_up 2 _ (next_up 1 _ (next_up 0 _ (omega arith) r.0.0.0.0.0.1) r.0.0.0.0.1) r.0.0.0.1) r.0.0.1) r.0.1)) r.1, c.if-k-lt-NAME.true, c.in_default-1.rest.1)

pub returns-then-k-lt-NAME : goal.returns-then-k-lt-NAME
returns-then-k-lt-NAME c = let r = c.in_default-1.rest.0.0.0 in record { output_after = c.act.ensures.output_after ∙ obeyed _ c.args.at _ _ _ (code_act c.args.k c.args.q c.args.v (next_up 11 _ (c.requires.4.control (next_up 4 _ (next_up 3 _ (next_up 2 _ (next_up 1 _ (next_up 0 _ (omega arith) r.0.0.0.0.0.1) r.0.0.0.0.1) r.0.0.0.1) r.0.0.1) r.0.1)) r.1) c.if-k-lt-NAME.true c.in_default-1.rest.1); sound_g = c.act.ensures.sound_g }

pub by_type-requires : goal.by_type-requires
by_type-requires c = (c.requires.0, c.requires.1, c.requires.2, c.requires.3, elim c.in_default.branch [ in_default-via-then-k-lt39 w ↦ absurd (omega arith) | in_default-via-else-k-lt39+else-k-lt46 w ↦ omega arith ])

pub returns-in-0 : goal.returns-in-0
returns-in-0 c =
    let args = c.args in
    record { output_after = strayed c.stray.ensures _ _ _ _ ∙ obeyed_none _ args.at _ _ _ (code_0 args.k args.q args.v c.in-0.is); sound_g = strayed_sound c.stray.ensures _ _ _ _ refl }

pub returns-in-1 : goal.returns-in-1
returns-in-1 c =
    let args = c.args in
    record { output_after = end_halts _ args.at _ _ _ ∙ obeyed _ args.at _ _ _ (code_1 args.k args.q args.v c.in-1.is); sound_g = refl }

pub returns-in-2 : goal.returns-in-2
returns-in-2 c =
    let args = c.args in
    rw c.low.ensures (record { output_after = jump_goes _ args.at _ _ _ (low args.v) ∙ obeyed _ args.at _ _ _ (code_2 args.k args.q args.v c.in-2.is); sound_g = (c.requires.0, c.requires.1, c.requires.2, refl) })

pub returns-in-3 : goal.returns-in-3
returns-in-3 c =
    let args = c.args in
    record { output_after = c.lift.ensures.o_value c.«open».new.store args.input.now args.output.now args.own.now ∙ ap (lifted _ _) (c.«open».ensures.o_after (own_of args.own.now args.live) args.input.now args.output.now) ∙ lifted_next _ _ _ _ _ ∙ enter_lifted _ args.at _ _ _ args.q (counted args.v) ∙ obeyed _ args.at _ _ _ (code_3 args.k args.q args.v c.in-3.is); sound_g = c.lift.ensures.sound_g c.«open».new.store args.output.now args.output.now args.own.now (did_quiet args.n c.«open».result c.«open».new.store args.output.now c.«open».ensures.sound_d c.requires.2) c.requires.1 }

pub returns-in-4 : goal.returns-in-4
returns-in-4 c =
    let args = c.args in
    record { output_after = c.close.ensures.o_value args.store.now args.input.now args.output.now ∙ obeyed _ args.at _ _ _ (rw c.mid.ensures (code_4 args.k args.q args.v c.in-4.is)); sound_g = c.close.ensures.sound_g args.store.now args.output.now c.requires.0 c.requires.2 }

pub returns-in-11 : goal.returns-in-11
returns-in-11 c =
    let args = c.args in
    record { output_after = c.upto.ensures.o_value args.input.now args.output.now ∙ obeyed _ args.at _ _ _ (code_11 args.k args.q args.v c.in-11.is); sound_g = c.upto.ensures.sound_g args.output.now c.requires.2 }

pub returns-in-13 : goal.returns-in-13
returns-in-13 c =
    let args = c.args in
    record { output_after = c.load.ensures.o_after args.input.now args.output.now ∙ obeyed _ args.at _ _ _ (code_13 args.k args.q args.v c.in-13.is); sound_g = c.load.ensures.sound_g args.output.now c.requires.2 }

pub returns-in-14 : goal.returns-in-14
returns-in-14 c =
    let args = c.args in
    record { output_after = c.save.ensures.o_after args.input.now args.output.now ∙ obeyed _ args.at _ _ _ (code_14 args.k args.q args.v c.in-14.is); sound_g = c.save.ensures.sound_g args.output.now c.requires.2 }

pub returns-in-16 : goal.returns-in-16
returns-in-16 c =
    let args = c.args in
    record { output_after = c.result.ensures.o_after args.input.now args.output.now ∙ obeyed_as _ args.at _ _ _ (code_16 args.k args.q args.v c.in-16.is); sound_g = c.result.ensures.sound_g args.output.now c.requires.2 }

pub returns-in-39-to-45 : goal.returns-in-39-to-45
returns-in-39-to-45 c =
    let args = c.args in
    record { output_after = c.by_name.ensures.o_after args.input.now args.output.now; sound_g = c.by_name.ensures.sound_g args.output.now c.requires.2 }

pub returns-else-k-lt-NAME : goal.returns-else-k-lt-NAME
returns-else-k-lt-NAME c = record { output_after = c.by_type.ensures.output_after c.args.input.now; sound_g = c.by_type.ensures.sound_g }
