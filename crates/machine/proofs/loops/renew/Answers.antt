-- The place of the newest held step.
use mathlib.Core.Path.{◌∙◌}
use Rattle.machine.proofs.Kept.{sound_as}
use Rattle.machine.proofs.Told.{released, renew_sound, renew_room, renew_done, held_written}
use Rattle.machine.proofs.loops.renew.Goals as goal

pub back-requires : goal.back-requires
back-requires c = let n = c.args.n in let s = c.args.store.now in let x = c.args.x in (renew_sound n s x c.hold-m.ensures.store_after c.requires.3 c.hold-m.ensures.value c.requires.1 c.requires.2 c.requires.0, renew_room n s x c.hold-m.ensures.store_after c.requires.3 c.hold-m.ensures.value c.requires.1 c.requires.2, c.requires.4)

pub returns : goal.returns
returns c = let n = c.args.n in let s = c.args.store.now in let x = c.args.x in record { o_after = λ a i o. c.back.ensures.o_after a i o ∙ renew_done n s x c.hold-m.ensures.store_after c.requires.3 c.hold-m.ensures.value c.requires.1 c.requires.2 c.args.s a i o; sound_d = sound_as n c.hold-m.result c.back.result c.back.new.store (held_written (released n) c.hold-m.result c.hold-m.ensures.value) c.back.ensures.sound_d }
