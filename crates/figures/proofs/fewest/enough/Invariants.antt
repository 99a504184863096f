-- `figures::fewest::enough` meets its contract: what is left to try from p on gives what there was from 1 on.
-- Assumes nothing.
use mathlib.Core.Path.{◌≡◌}
use Prim.Native.Nat.{◌-◌}
use Rattle.figures.specs.Digits.{value}
use Rattle.figures.specs.Fewest.{least, least_from}
use Rattle.figures.proofs.fewest.enough.Given as goal

abbrev pub invariant-loop-p : goal.invariant-loop-p
invariant-loop-p l = least (value l.v) (value l.low) (value l.high) l.t ≡ least_from (value l.v) (value l.low) (value l.high) l.t (17 - l.p) l.p
