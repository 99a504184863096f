-- `names::passes::outline` meets its contract: what the pass gives for the nodes that are in use.
use native.Mathlib.Omega.{arith}
use lib.ListN.{length-take}
use Rattle.names.proofs.passes.outline.Goals as goal

pub outline-o-requires : goal.outline-o-requires
outline-o-requires c = rw c.front.ensures (simp length-take (omega (arith, c.front-arg-1.given)))

pub returns : goal.returns
returns c =
    let o = c.outline-o.ensures in
    rw (← c.front.ensures) (record { rowed = o.rows_after; least = o.least_value; few = o.outline_within.rows })
