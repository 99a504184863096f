-- Fewer cells are in use.
use native.Mathlib.Omega.{arith}
use native.Mathlib.Nat.{le_refl}
use Rattle.machine.proofs.Execs.{room_lacks}
use Rattle.machine.proofs.steps.lacks.Goals as goal

pub overflow_add-result : goal.overflow_add-result
overflow_add-result c = omega (arith, c.first_cell.ensures.upper_bound, c.requires.1)

pub returns : goal.returns
returns c = let args = c.args in λ s i o. room_lacks args.n args.live s i o args.own.now (c.first_cell.ensures.by_index args.live (le_refl _)) args.k
