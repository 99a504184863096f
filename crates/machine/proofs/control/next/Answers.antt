-- The newest position is taken.
use mathlib.Core.Path.{refl, ◌∙◌}
use Rattle.machine.specs.Instructions.{high}
use Rattle.machine.proofs.Execs.{strayed, strayed_sound, next_no, next_done, next_lives}
use Rattle.machine.proofs.control.next.Goals as goal

pub returns-then-nest-word : goal.returns-then-nest-word
returns-then-nest-word c =
    let args = c.args in
    record { o_after = λ s i o. strayed c.stray.ensures s _ i o ∙ next_no args.n args.live s i o args.own.now args.at (high args.v) c.word.ensures (rw c.high-nest.ensures at c.if-nest-word.true); sound_g = λ s o g h. strayed_sound c.stray.ensures s _ o o refl }

pub returns : goal.returns
returns c =
    let args = c.args in
    rw (← c.high-nest.ensures) (record { o_after = λ s i o. next_done args.n args.live s i o args.own.now args.at c.high-nest.result c.word.ensures c.requires c.if-nest-word.false c.word-position.ensures c.note.ensures; sound_g = λ s o g h. (g, next_lives args.n args.live s s o args.own.now args.at c.high-nest.result c.word.ensures c.requires c.if-nest-word.false c.word-position.ensures c.note.ensures, h, refl) })
