-- The number goes to a cell that is still in use, and takes whole numbers.
use Rattle.machine.proofs.Numbers.{save_quick}
use Rattle.machine.proofs.Works.{yes_true}
use mathlib.Core.Path.{refl}
use Rattle.machine.proofs.quick.save.Goals as goal

pub returns : goal.returns
returns c =
    let args = c.args in
    save_quick args.at args.live args.n args.store.now args.own.now c.requires.0 args.v c.cell_of-c.ensures.spots c.if-c-m.false c.in_ok-z.was c.whole_at.ensures (c.takes_wholes.ensures (yes_true refl c.if-not-takes_wholes.false-raw)) c.put_cell.ensures
