-- The position is noted behind the others.
use mathlib.Core.Path.{refl, ap, ◌∙◌}
use native.Mathlib.Omega.{arith}
use mathlib.Core.List.{List}
use Prim.Native.Nat.{ℕ, ◌+◌, ◌<◌}
use Rattle.machine.specs.Instructions.{high, mid, low, six_bits}
use Rattle.machine.specs.model.Holding.{note_of}
use Rattle.machine.proofs.Execs.{strayed, strayed_sound, go_no, go_done, go_lives}
use Rattle.machine.proofs.control.go.Goals as goal

pub returns-then-nest-word : goal.returns-then-nest-word
returns-then-nest-word c =
    let args = c.args in
    record { o_after = λ s i o. strayed c.stray.ensures s _ i o ∙ go_no args.n args.live s i o args.own.now args.at (high args.v) c.word.ensures (low args.v) (mid args.v) (rw c.high-nest.ensures at c.if-nest-word.true); sound_g = λ s o g h. strayed_sound c.stray.ensures s _ o o refl }

pub returns : goal.returns
returns c =
    let k : c.high-nest.result < six_bits = omega (arith, c.high-nest.ensures, c.ranges.v.fits) in
    let e = c.note-2.ensures ∙ ap (λ (z : List ℕ). note_of z c.args.live 5 (c.high-nest.result + 1)) c.note.ensures in
    rw (← c.high-nest.ensures, ← c.mid.ensures, ← c.low.ensures) (record { o_after = λ s i o. go_done c.args.n c.args.live s i o c.args.own.now c.args.at c.high-nest.result c.word.ensures c.low.result c.mid.result c.requires c.if-nest-word.false k e; sound_g = λ s o g h. (g, go_lives c.args.n c.args.live s s o c.args.own.now c.args.at c.high-nest.result c.word.ensures c.low.result c.mid.result c.requires c.if-nest-word.false k e, h, refl) })
