-- One line for each operation.
use mathlib.Core.Path.{sym, ap, ◌∙◌}
use lib.IntN.{ℤ}
use mir.Syntax.{w32}
use mir.Val.{to_z, of_z}
use mir.Facts.{to_z-of_z, sfits_to_z}
use Rattle.reals.specs.declared.Value.TheVariants.{Whole}
use Rattle.machine.specs.Data.{unary, binary}
use Rattle.machine.specs.model.Holding.{way_of}
use Rattle.machine.proofs.Works.{push_is, same_work}
use Rattle.machine.proofs.Execs.{did_quiet}
use Rattle.machine.proofs.Decode.{act_12, act_13, act_14, act_15, act_17, act_18, act_19, act_20, act_21, act_unary, act_binary, next_up}
use Rattle.machine.proofs.steps.work.Goals as goal

pub new_cell-requires : goal.new_cell-requires
new_cell-requires c = (c.requires.0, rw (c.number.ensures, to_z-of_z (sfits_to_z c.ranges.v)) (sfits_to_z c.ranges.v))

pub unary_of-requires : goal.unary_of-requires
unary_of-requires c = let r = c.in_default.in_default-own.rest in ((next_up 21 _ (next_up 20 _ (next_up 19 _ (next_up 18 _ (next_up 17 _ (next_up 16 _ (next_up 15 _ (next_up 14 _ (next_up 13 _ (next_up 12 _ c.requires.2 r.0.0.0.0.0.0.0.0.1) r.0.0.0.0.0.0.0.1) r.0.0.0.0.0.0.1) r.0.0.0.0.0.1) c.requires.4) r.0.0.0.0.1) r.0.0.0.1) r.0.0.1) r.0.1) r.1), c.if-k-lt-PLUS.true)

pub returns-then-k-lt-PLUS : goal.returns-then-k-lt-PLUS
returns-then-k-lt-PLUS c = let r = c.in_default.in_default-own.rest in record { output_after = λ a. c.unary.ensures.does a c.args.input.now c.args.output.now ∙ same_work _ _ (act_unary c.args.k c.args.q (way_of c.args.own.now c.args.w) c.args.v (next_up 21 _ (next_up 20 _ (next_up 19 _ (next_up 18 _ (next_up 17 _ (next_up 16 _ (next_up 15 _ (next_up 14 _ (next_up 13 _ (next_up 12 _ c.requires.2 r.0.0.0.0.0.0.0.0.1) r.0.0.0.0.0.0.0.1) r.0.0.0.0.0.0.1) r.0.0.0.0.0.1) c.requires.4) r.0.0.0.0.1) r.0.0.0.1) r.0.0.1) r.0.1) r.1) c.if-k-lt-PLUS.true ∙ ap (unary c.args.q) (sym c.unary_of.ensures)); sound_o = did_quiet c.args.n c.unary.result c.unary.new.store c.args.output.now c.unary.ensures.sound_d c.requires.1 }

pub binary_of-requires : goal.binary_of-requires
binary_of-requires c = c.if-k-lt-PLUS.false

pub returns-in-12 : goal.returns-in-12
returns-in-12 c =
    let args = c.args in
    record { output_after = λ a. c.new_cell.ensures.o_after a args.input.now args.output.now ∙ push_is _ _ args.q (ap (λ (z : ℤ). Whole (to_z w32 (of_z w32 z))) c.number.ensures ∙ ap Whole (to_z-of_z (sfits_to_z c.ranges.v))) ∙ same_work _ _ (act_12 args.k args.q (way_of args.own.now args.w) args.v c.in-12.is); sound_o = did_quiet args.n c.new_cell.result c.new_cell.new.store args.output.now c.new_cell.ensures.sound_d c.requires.1 }

pub returns-in-13 : goal.returns-in-13
returns-in-13 c =
    let args = c.args in
    record { output_after = λ a. c.load.ensures.does a args.input.now args.output.now ∙ same_work _ _ (act_13 args.k args.q (way_of args.own.now args.w) args.v c.in-13.is); sound_o = did_quiet args.n c.load.result c.load.new.store args.output.now c.load.ensures.sound_d c.requires.1 }

pub returns-in-14 : goal.returns-in-14
returns-in-14 c =
    let args = c.args in
    record { output_after = λ a. c.save.ensures.does a args.input.now args.output.now ∙ same_work _ _ (act_14 args.k args.q (way_of args.own.now args.w) args.v c.in-14.is); sound_o = did_quiet args.n c.save.result c.save.new.store args.output.now c.save.ensures.sound_d c.requires.1 }

pub returns-in-15 : goal.returns-in-15
returns-in-15 c =
    let args = c.args in
    record { output_after = λ a. c.assign.ensures.does a args.input.now args.output.now ∙ same_work _ _ (act_15 args.k args.q (way_of args.own.now args.w) args.v c.in-15.is); sound_o = did_quiet args.n c.assign.result c.assign.new.store args.output.now c.assign.ensures.sound_d c.requires.1 }

pub returns-in-17 : goal.returns-in-17
returns-in-17 c =
    let args = c.args in
    record { output_after = λ a. c.forget.ensures.does a args.input.now args.output.now ∙ same_work _ _ (act_17 args.k args.q (way_of args.own.now args.w) args.v c.in-17.is); sound_o = did_quiet args.n c.forget.result args.store.now args.output.now c.forget.ensures.sound_d c.requires.1 }

pub returns-in-18 : goal.returns-in-18
returns-in-18 c =
    let args = c.args in
    record { output_after = λ a. c.receive.ensures.o_after a args.output.now ∙ same_work _ _ (act_18 args.k args.q (way_of args.own.now args.w) args.v c.in-18.is); sound_o = did_quiet args.n c.receive.result c.receive.new.store args.output.now c.receive.ensures.sound_d c.requires.1 }

pub returns-in-19 : goal.returns-in-19
returns-in-19 c =
    let args = c.args in
    record { output_after = λ a. c.send.ensures.output_after a args.input.now ∙ same_work _ _ (act_19 args.k args.q (way_of args.own.now args.w) args.v c.in-19.is); sound_o = c.send.ensures.sound_o }

pub returns-in-20 : goal.returns-in-20
returns-in-20 c =
    let args = c.args in
    record { output_after = λ a. c.keep.ensures.does a args.input.now args.output.now ∙ same_work _ _ (act_20 args.k args.q (way_of args.own.now args.w) args.v c.in-20.is); sound_o = did_quiet args.n c.keep.result c.keep.new.store args.output.now c.keep.ensures.sound_d c.requires.1 }

pub returns-in-21 : goal.returns-in-21
returns-in-21 c =
    let args = c.args in
    record { output_after = λ a. c.sum.ensures.does a args.input.now args.output.now ∙ same_work _ _ (act_21 args.k args.q (way_of args.own.now args.w) args.v c.in-21.is); sound_o = did_quiet args.n c.sum.result c.sum.new.store args.output.now c.sum.ensures.sound_d c.requires.1 }

pub returns-else-k-lt-PLUS : goal.returns-else-k-lt-PLUS
returns-else-k-lt-PLUS c =
    let args = c.args in
    record { output_after = λ a. c.binary.ensures.does a args.input.now args.output.now ∙ same_work _ _ (act_binary args.k args.q (way_of args.own.now args.w) args.v c.if-k-lt-PLUS.false ∙ ap (binary args.q) (sym c.binary_of.ensures)); sound_o = did_quiet args.n c.binary.result c.binary.new.store args.output.now c.binary.ensures.sound_d c.requires.1 }
