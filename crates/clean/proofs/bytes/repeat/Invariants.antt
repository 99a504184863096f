-- `clean::bytes::repeat` meets its contract: as many bytes are left as turns. Assumes nothing.
use Prim.Native.Nat.{◌-◌, ◌+◌}
use mathlib.Core.Path.{◌≡◌}
use lib.ListN.{replicate}
use Rattle.clean.proofs.Putting.{Putting}
use Rattle.clean.proofs.bytes.repeat.Given as goal

abbrev pub invariant-loop : goal.invariant-loop
invariant-loop l = (l.to ≡ l.at + l.counter) × Putting l.initial.page l.page l.at l.to (replicate (l.times - l.counter) l.b) (replicate l.times l.b)
