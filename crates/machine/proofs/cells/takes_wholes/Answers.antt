-- One of the two kinds of a whole number's cell.
use native.Mathlib.Omega.{arith}
use borrow.Author.Tests.{eqb-true}
use Rattle.machine.specs.model.Holding.{room_of}
use Rattle.machine.proofs.Numbers.{takes_held, takes_unset}
use Rattle.machine.proofs.cells.takes_wholes.Goals as goal

pub overflow_mul-kind : goal.overflow_mul-kind
unfolding room_of
overflow_mul-kind c = omega arith

pub offset_bounds-store-c : goal.offset_bounds-store-c
unfolding room_of
offset_bounds-store-c c = omega arith

pub bounds-store-c : goal.bounds-store-c
unfolding room_of
bounds-store-c c = omega arith

pub returns-then-kind-eq-WHOLE : goal.returns-then-kind-eq-WHOLE
returns-then-kind-eq-WHOLE c = λ e. takes_held c.args.store.now c.args.c c.if-kind-eq-WHOLE.true

pub returns-else-kind-eq-WHOLE : goal.returns-else-kind-eq-WHOLE
returns-else-kind-eq-WHOLE c = λ e. takes_unset c.args.store.now c.args.c (eqb-true _ 0 e)
