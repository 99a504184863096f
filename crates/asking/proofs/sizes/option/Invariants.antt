-- `asking::sizes::option` meets its contract. Each word that is passed is another, so the option from `at` on is the option.
-- Assumes nothing.
use mathlib.Core.Path.{◌≡◌}
use Prim.Native.Nat.{◌-◌}
use lib.ListN.{length}
use Rattle.asking.specs.Sorts.{asked_from}
use Rattle.asking.specs.Options.{option_of}
use Rattle.asking.proofs.sizes.option.Given as goal

abbrev pub invariant-loop-at : goal.invariant-loop-at
invariant-loop-at l = option_of l.name l.usual (asked_from l.line l.from) ≡ option_of l.name l.usual (asked_from l.line l.at)

abbrev pub decreases-loop-at : goal.decreases-loop-at
decreases-loop-at l = length l.line - l.at
