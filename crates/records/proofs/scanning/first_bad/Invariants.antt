-- The invariant: the sections that are left, from here on, decide.
use Prim.Native.Nat.{◌-◌}
use mathlib.Core.Path.{◌≡◌}
use Rattle.records.specs.model.Scanning.{rows_from, scan}
use Rattle.records.proofs.scanning.first_bad.Given as goal

abbrev pub invariant-loop-k : goal.invariant-loop-k
invariant-loop-k l = scan (rows_from l.t 0 l.n) l.words l.at ≡ scan (rows_from l.t l.k (l.n - l.k)) l.words l.end
