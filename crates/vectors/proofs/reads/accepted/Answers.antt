-- `vectors::reads::accepted` meets its contract. The answer's number is compared with 0.
-- Assumes nothing.
use mathlib.Core.Path.{ap}
use Prim.Native.Nat.{ℕ}
use lib.Dec.{eqb}
use Rattle.vectors.proofs.reads.accepted.Goals as goal

pub returns : goal.returns
returns c = ap (λ (n : ℕ). eqb n 0) c.answer.ensures
