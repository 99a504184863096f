-- `types::check` meets its contract: the pass over what is in use.
use native.Mathlib.Omega.{arith}
use lib.ListN.{length-take}
use Rattle.types.proofs.check.Goals as goal

pub check-requires : goal.check-requires
check-requires c = (rw c.front.ensures (simp length-take (omega (arith, c.front-arg-1.given))), c.first_rows.ensures.result_len_bound)

pub returns : goal.returns
returns c = rw (← c.front.ensures, ← c.front-2.ensures, ← c.first_rows.ensures.result_value) c.check.ensures
