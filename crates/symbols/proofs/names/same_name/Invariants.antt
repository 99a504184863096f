-- `symbols::names::same_name` meets its contract. Whether what is left of the two names is equal is whether the names are.
-- Assumes nothing.
use mathlib.Core.Path.{◌≡◌}
use Prim.Native.Nat.{◌<◌}
use lib.ListN.{length}
use Rattle.std.specs.Prelude.{IfSome}
use Rattle.symbols.specs.Names.{same_name}
use Rattle.symbols.specs.model.Steps.{rest_of}
use Rattle.symbols.proofs.Next.{left}
use Rattle.symbols.proofs.names.same_name.Given as goal

abbrev pub invariant-loop-i : goal.invariant-loop-i
invariant-loop-i l =
    IfSome l.i (λ p. p < length l.source) × IfSome l.j (λ q. q < length l.source)
    × (same_name (rest_of l.source l.initial.i) (rest_of l.source l.initial.j) ≡ same_name (rest_of l.source l.i) (rest_of l.source l.j))

abbrev pub decreases-loop-i : goal.decreases-loop-i
decreases-loop-i l = left l.source l.i
