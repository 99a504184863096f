-- `symbols::names::spells` meets its contract. Whether what is left of the word and of the name is equal is whether they are.
-- Assumes nothing.
use mathlib.Core.Path.{◌≡◌}
use Prim.Native.Nat.{◌<◌}
use lib.ListN.{length, drop}
use Rattle.std.specs.Prelude.{IfSome}
use Rattle.symbols.specs.Names.{same_name}
use Rattle.symbols.specs.model.Steps.{rest_of}
use Rattle.symbols.proofs.names.spells.Given as goal

abbrev pub invariant-loop-b : goal.invariant-loop-b
invariant-loop-b l =
    IfSome l.j (λ q. q < length l.source)
    × (same_name l.word (rest_of l.source l.initial.j) ≡ same_name (drop l.b-index l.word) (rest_of l.source l.j))
