-- Six words.
use mathlib.Core.Path.{ap, ◌∙◌}
use mathlib.Core.List.{List}
use Prim.Native.Nat.{ℕ}
use Rattle.machine.specs.model.Holding.{note_of}
use Rattle.machine.proofs.control.lay.Goals as goal

pub returns : goal.returns
returns c =
    let i = c.args.i in
    c.note-6.ensures
    ∙ ap (λ (z : List ℕ). note_of z i 5 0)
    (c.note-5.ensures ∙ ap (λ (z : List ℕ). note_of z i 4 c.args.q)
    (c.note-4.ensures ∙ ap (λ (z : List ℕ). note_of z i 3 c.args.fate)
    (c.note-3.ensures ∙ ap (λ (z : List ℕ). note_of z i 2 c.args.outer)
    (c.note-2.ensures ∙ ap (λ (z : List ℕ). note_of z i 1 c.args.first)
    c.note.ensures))))
