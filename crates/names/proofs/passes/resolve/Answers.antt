-- `names::passes::resolve` meets its contract: what the pass gives for the nodes and rows that are in use.
use native.Mathlib.Omega.{arith}
use lib.ListN.{length-take}
use Rattle.names.proofs.passes.resolve.Goals as goal

pub resolve-u-requires : goal.resolve-u-requires
resolve-u-requires c = (rw c.front.ensures (simp length-take (omega (arith, c.front-arg-1.given))), c.first_rows.ensures.result_len_bound)

pub returns : goal.returns
returns c =
    let u = c.resolve-u.ensures in
    rw (← c.front.ensures, ← c.first_rows.ensures.result_value) (record { used = u.uses_after; least = u.least_value; few = u.uses_within.count })
