-- `types::walking::keep` meets its contract: past the end nothing is written.
use mathlib.Core.Path.{sym}
use lib.Seq.{set_out}
use Rattle.types.proofs.walking.keep.Goals as goal

pub returns-else-symbol-marks : goal.returns-else-symbol-marks
returns-else-symbol-marks c = sym (set_out _ _ _ c.if-symbol-marks.false)
