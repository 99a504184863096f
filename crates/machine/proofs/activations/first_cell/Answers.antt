-- The program's first cell is 0; any other activation's is a word of its own.
use mathlib.Core.Path.{sym, ◌∙◌}
use native.Mathlib.Omega.{arith}
use Rattle.machine.proofs.Frames.{base_at}
use Rattle.reals.proofs.Signed.{bits_pos}
use Rattle.machine.proofs.activations.first_cell.Goals as goal

pub returns-then-i-eq0 : goal.returns-then-i-eq0
returns-then-i-eq0 c = record { by_index = λ a h. simp c.if-i-eq0.true; upper_bound = omega arith }

pub returns-else-i-eq0 : goal.returns-else-i-eq0
returns-else-i-eq0 c =
    let args = c.args in
    record { by_index = λ a h. c.word.ensures ∙ sym (base_at args.own.now a args.i (bits_pos args.i c.if-i-eq0.false) h); upper_bound = omega (arith, c.word.type_inv) }
