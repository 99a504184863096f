-- `meanings::own_result`: what the bodies that are left give is what all of them give.
use mathlib.Core.Path.{◌≡◌}
use lib.ListN.{length}
use Rattle.std.specs.Slice.Iter.{iter_rest}
use Rattle.std.specs.Iterator.Adapters.{rev_source}
use Rattle.names.specs.model.Rows.{opens_of}
use Rattle.types.specs.model.Passes.{own_of}
use Rattle.types.proofs.meanings.own_result.Given as goal

abbrev pub invariant-loop-body : goal.invariant-loop-body
invariant-loop-body l =
    let left = iter_rest (rev_source l.body-iterator) in
    own_of l.rows l.symbol.number (opens_of (length left) left) ≡ own_of l.rows l.symbol.number (opens_of l.count l.bodies)
