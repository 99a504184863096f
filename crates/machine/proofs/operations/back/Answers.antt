-- The next cell has the value.
use mathlib.Core.Path.{refl}
use Rattle.machine.proofs.Kept.{back_done, new_sound}
use Rattle.machine.proofs.operations.back.Goals as goal

pub returns : goal.returns
returns c =
    let args = c.args in
    record { o_after = λ a i o. back_done args.n a args.store.now i o args.v c.put_cell.ensures c.requires.2 c.requires.1; sound_d = (new_sound _ _ c.put_cell.ensures c.requires.0 refl c.requires.1, refl) }
