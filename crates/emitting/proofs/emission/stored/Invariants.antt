-- `emitting::emission::stored` meets its contract. The loop's invariant: n left parts are to be stored yet, and with them the state comes to what
-- all of them make of the first one.
use mathlib.Core.Path.{◌≡◌}
use mathlib.Core.List.{List, []}
use Prim.Native.Nat.{ℕ, ◌+◌, ◌*◌, ◌≤◌}
use lib.ListN.{length}
use Rattle.emitting.specs.model.Emission.{Used, stored, lefts_of}
use Rattle.emitting.specs.model.Arrays.{things_of, see}
use Rattle.emitting.proofs.emission.stored.Given as goal

abbrev pub invariant-loop-n : goal.invariant-loop-n
invariant-loop-n l =
    (l.n ≤ l.initial.t.lefts)
    × (l.t.open ≡ l.initial.t.open)
    × (l.t.here.at + 2 * l.n ≤ l.initial.t.here.at + 2 * l.initial.t.lefts)
    × (length l.code ≡ length l.initial.code)
    × ((vs ly ks es : List ℕ) (us : List Used) (ah en : List ℕ) → stored vs ly ks es (lefts_of vs ly ks es l.n (things_of l.initial.t.open l.things) []) (see l.t us l.things l.code ah en) ≡ stored vs ly ks es (lefts_of vs ly ks es l.initial.t.lefts (things_of l.initial.t.open l.things) []) (see l.initial.t us l.things l.initial.code ah en))

abbrev pub decreases-loop-n : goal.decreases-loop-n
decreases-loop-n l = l.n
