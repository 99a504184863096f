-- The next number, as it goes to the cell.
use mathlib.Core.Path.{refl, ap, ◌∙◌}
use lib.IntN.{pos}
use lib.ListN.{get_or}
use mir.Syntax.{w32}
use Rattle.reals.specs.declared.Value.TheVariants.{Whole}
use Rattle.reals.proofs.Signed.{read_back, again}
use Rattle.machine.specs.model.Holding.{data_of}
use Rattle.machine.proofs.Works.{taking_ended, taking_some}
use Rattle.machine.proofs.Kept.{cell_in, look_data, sound_as}
use Rattle.machine.proofs.Told.{input_none, input_some, rest_data, took_sound, took_one}
use Rattle.machine.proofs.ports.take_in.Goals as goal

pub returns-then-t-input : goal.returns-then-t-input
returns-then-t-input c =
    let args = c.args in
    record { o_after = λ a o. taking_ended _ (data_of args.n a args.store.now args.input.now o) args.q args.w.cell _ (input_none args.n a args.store.now args.input.now o c.if-t-input.true); sound_d = tt }

pub put_through-requires : goal.put_through-requires
put_through-requires c = (took_sound _ _ c.requires.0, c.requires.1, again w32 (get_or c.args.input.now c.args.n.taken (pos 0)) c.z-1.given)

pub returns : goal.returns
returns c =
    let args = c.args in
    record { o_after = λ a o. c.put_through.ensures.o_after a args.input.now o ∙ taking_some _ (data_of args.n a args.store.now args.input.now o) args.q args.w.cell _ (input_some args.n a args.store.now args.input.now o c.if-t-input.false) (rest_data args.n a args.store.now args.input.now o) (cell_in (took_one args.n) a args.store.now args.input.now o args.w.cell c.requires.1) (look_data (took_one args.n) a args.store.now args.input.now o args.w.cell c.requires.1) c.requires.2 (ap Whole (read_back w32 (get_or args.input.now args.n.taken (pos 0)) c.z-1.given)) refl; sound_d = sound_as args.n (took_one args.n) c.put_through.result c.put_through.new.store refl c.put_through.ensures.sound_d }
