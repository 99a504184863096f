-- The parts that are used, and what every lent word holds.
use mathlib.Core.Path.{refl}
use native.Mathlib.Omega.{arith}
use Rattle.machine.proofs.Limits.{taken_length, taken_most, store_length, store_most, run_exit}
use Rattle.machine.proofs.steps.run.Goals as goal

pub overflow_mul-numbers : goal.overflow_mul-numbers
overflow_mul-numbers c = omega (arith, c.min-cells.ensures)

pub slice_bounds-used-end : goal.slice_bounds-used-end
slice_bounds-used-end c = taken_length 16384 c.args.code.now c.min-words.ensures

pub slice_bounds-used-end-3 : goal.slice_bounds-used-end-3
slice_bounds-used-end-3 c = store_length c.args.store.now c.min-cells.ensures refl

pub used-requires : goal.used-requires
used-requires c = (taken_most 16384 c.args.code.now c.min-words.ensures, store_most c.args.store.now c.min-cells.ensures refl)

pub returns : goal.returns
returns c =
    let args = c.args in
    run_exit args.code.now args.input.now args.limit args.store.now args.output.now c.min-words.ensures c.min-cells.ensures refl c.used.ensures.drove c.used.ensures.store_after
