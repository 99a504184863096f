-- `uses::meaning` searches the scopes that are open, from the innermost outward.
-- The invariant: what the name means in the scopes that are left is what it means in all of them.
use mathlib.Core.Path.{◌≡◌}
use lib.ListN.{length}
use Rattle.std.specs.Slice.Iter.{iter_rest}
use Rattle.std.specs.Iterator.Adapters.{rev_source}
use Rattle.names.specs.model.Rows.{opens_of, meant_in}
use Rattle.names.proofs.uses.meaning.Given as goal

abbrev pub invariant-loop-scope : goal.invariant-loop-scope
invariant-loop-scope l =
    let left = iter_rest (rev_source l.scope-iterator) in
    meant_in l.ids l.rows (opens_of (length left) left) l.id ≡ meant_in l.ids l.rows (opens_of l.depth l.stack) l.id
