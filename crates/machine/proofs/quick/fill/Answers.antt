-- There is room for one more cell.
use native.Mathlib.Omega.{arith}
use native.Mathlib.Nat.{le_refl}
use Rattle.machine.proofs.Numbers.{fill_quick}
use Rattle.machine.proofs.quick.fill.Goals as goal

pub returns : goal.returns
returns c =
    let args = c.args in
    λ f p. fill_quick args.at args.live args.n args.store.now args.own.now c.requires.0 args.x c.requires.3 (omega (arith, c.if-first_cell-m.false, (c.first_cell.ensures.by_index args.live (le_refl _)))) (omega (arith, c.if-m-n.false, c.room.ensures)) c.put_cell.ensures f p
