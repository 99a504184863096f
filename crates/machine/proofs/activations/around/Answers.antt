-- The display has it, or it is past the program.
use native.Mathlib.Omega.{arith}
use Rattle.machine.proofs.Levels.{level_few}
use Rattle.machine.proofs.Frames.{walk_shown, walk_past}
use Rattle.machine.proofs.activations.around.Goals as goal

pub returns-then-levels-j : goal.returns-then-levels-j
returns-then-levels-j c =
    let args = c.args in
    (omega arith, walk_past args.own.now args.i args.levels c.requires (omega (arith, c.level-j.ensures, c.if-levels-j.true)))

pub entry-requires : goal.entry-requires
entry-requires c =
    let args = c.args in
    omega (arith, c.level-j.ensures, level_few args.own.now args.i c.requires.rises args.i (omega arith), c.requires.many)

pub returns : goal.returns
returns c =
    let args = c.args in
    walk_shown args.own.now args.i args.levels c.requires (omega (arith, c.level-j.ensures, c.if-levels-j.false)) (rw c.level-j.ensures at c.entry.ensures)
