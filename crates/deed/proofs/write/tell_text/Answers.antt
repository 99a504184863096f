-- `deed::write::tell_text` meets its contract. The status is of what write answers, whatever is shown; the text is inside the room.
-- Assumes nothing.
use mathlib.Core.Path.{sym}
use native.Mathlib.Omega.{arith}
use lib.Seq.{length-take-le}
use Rattle.clean.proofs.Inside.{text_inside}
use Rattle.deed.proofs.write.tell_text.Goals as goal

pub slice_bounds-room-end : goal.slice_bounds-room-end
slice_bounds-room-end c = omega (arith, text_inside c.write-w.ensures, c.length-n.ensures)

pub slice_bounds-say-end : goal.slice_bounds-say-end
slice_bounds-say-end c = sym (length-take-le _ _ (omega (arith, text_inside c.write-w.ensures, c.length-n.ensures)))
