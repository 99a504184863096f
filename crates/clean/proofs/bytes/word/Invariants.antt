-- `clean::bytes::word` meets its contract: the bytes from the index on are left. Assumes nothing.
use Prim.Native.Nat.{◌+◌}
use mathlib.Core.Path.{◌≡◌}
use lib.ListN.{drop}
use Rattle.clean.proofs.Putting.{Putting}
use Rattle.clean.proofs.bytes.word.Given as goal

abbrev pub invariant-loop-b : goal.invariant-loop-b
invariant-loop-b l = (l.to ≡ l.at + l.b-index) × Putting l.initial.page l.page l.at l.to (drop l.b-index l.w) l.w
