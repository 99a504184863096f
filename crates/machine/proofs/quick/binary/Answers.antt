-- What the two numbers give is in their place.
use native.Mathlib.Omega.{arith}
use native.Mathlib.Nat.{le_refl}
use Rattle.machine.proofs.Numbers.{binary_quick}
use Rattle.machine.proofs.quick.binary.Goals as goal

pub returns : goal.returns
returns c =
    let args = c.args in
    binary_quick args.at args.live args.n args.store.now args.own.now c.requires.0 args.op (omega (arith, c.if-first_cell-m.false, (c.first_cell.ensures.by_index args.live (le_refl _)))) c.in_ok-y.was c.whole_at.ensures c.in_ok-x.was c.whole_at-2.ensures c.wholes.ensures c.in-Is.is c.put_cell.ensures
