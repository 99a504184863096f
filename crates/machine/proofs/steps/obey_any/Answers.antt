-- What the instruction of control came to, or any other.
use mathlib.Core.Path.{ap, ◌∙◌}
use mathlib.Core.List.{List}
use Prim.Native.Nat.{ℕ}
use Rattle.machine.specs.Instructions.{decode}
use Rattle.machine.specs.Machine.{obey}
use Rattle.machine.specs.model.Holding.{data_of, trace_of, positions_of, frames_of, own_of, stepped}
use Rattle.machine.proofs.steps.obey_any.Goals as goal

pub other-requires : goal.other-requires
other-requires c =
    let e = rw c.in-None.is at c.moves.ensures.on_moved in
    let a = rw c.in-None.is at c.moves.ensures.on_moved_2 in
    (c.requires.0, rw e c.requires.1, c.requires.2, c.requires.3, a)

pub returns-in-Some : goal.returns-in-Some
returns-in-Some c =
    let e = rw c.in-Some.is at c.moves.ensures.on_moved in
    let s = rw c.in-Some.is at c.moves.ensures.on_moved_2 in
    record { output_after = e c.args.input.now c.args.output.now; sound_g = s c.args.output.now c.requires.2 }

pub returns-in-None : goal.returns-in-None
returns-in-None c =
    let e = rw c.in-None.is at c.moves.ensures.on_moved in
    record { output_after = c.other.ensures.output_after ∙ ap (λ (l : List ℕ). stepped (trace_of c.args.n c.args.output.now) (obey (decode c.args.k c.args.q c.args.v) c.args.at (positions_of l c.args.live) (frames_of l c.args.live) (data_of c.args.n (own_of l c.args.live) c.args.store.now c.args.input.now c.args.output.now))) e; sound_g = c.other.ensures.sound_g }
