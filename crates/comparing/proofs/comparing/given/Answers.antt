-- `comparing::comparing::given` meets its contract. Assumes nothing.
use native.Mathlib.Omega.{arith}
use Rattle.comparing.specs.Comparing.{short, listed}
use Rattle.comparing.proofs.comparing.given.Goals as goal

pub returns-then-room-list : goal.returns-then-room-list
returns-then-room-list c = short (omega arith)

pub returns : goal.returns
returns c = rw c.copy_from_slice.ensures.after (listed (omega arith))
