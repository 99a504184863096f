-- The cell has the value.
use mathlib.Core.Path.{refl}
use Rattle.machine.proofs.Kept.{put_done, put_sound}
use Rattle.machine.proofs.operations.put.Goals as goal

pub returns : goal.returns
returns c =
    let args = c.args in
    record { o_after = λ a i o. put_done args.n a args.store.now i o args.v c.put_cell.ensures c.requires.2 c.requires.1 c.requires.0.room; sound_d = (put_sound _ _ c.put_cell.ensures c.requires.0 c.requires.1, refl) }
