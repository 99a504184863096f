-- A whole number is one already.
use native.Mathlib.Omega.{arith}
use native.Mathlib.Nat.{le_refl}
use Rattle.machine.proofs.Numbers.{turn_quick}
use Rattle.machine.proofs.quick.turn.Goals as goal

pub returns : goal.returns
returns c =
    let args = c.args in
    turn_quick args.at args.live args.n args.store.now args.own.now c.requires.0 args.v (omega (arith, c.if-first_cell-m.false, (c.first_cell.ensures.by_index args.live (le_refl _)))) (omega (arith, c.low.ensures, c.if-low-gt0.false)) c.in_ok-whole_at.was c.whole_at.ensures
