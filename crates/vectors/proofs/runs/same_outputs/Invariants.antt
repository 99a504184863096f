-- `vectors::runs::same_outputs` meets its contract. What was found so far, and what the numbers from i on say, is what all of them say.
-- Assumes nothing.
use mathlib.Core.Path.{◌≡◌}
use mathlib.Core.Bool.{◌&&◌}
use Prim.Native.Nat.{◌-◌, ◌≤◌}
use lib.ListN.{drop}
use Rattle.vectors.specs.Ended.{numbers, after, begins}
use Rattle.vectors.proofs.runs.same_outputs.Given as goal

abbrev pub invariant-loop-i : goal.invariant-loop-i
invariant-loop-i l =
    (l.i ≤ l.count)
    × (begins (numbers l.text l.count l.from) l.output ≡ (l.same && begins (numbers l.text (l.count - l.i) l.at) (drop l.i l.output)))
    × (after l.text l.count l.from ≡ after l.text (l.count - l.i) l.at)
