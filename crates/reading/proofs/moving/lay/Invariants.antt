-- `reading::moving::lay` meets its contract. The invariant: the first i were laid. Assumes nothing.
use mathlib.Core.Path.{◌≡◌}
use lib.ListN.{length, take}
use Rattle.reading.specs.model.Moves.{laid}
use Rattle.reading.proofs.moving.lay.Given as goal

abbrev pub invariant-loop-i : goal.invariant-loop-i
invariant-loop-i g l = (length l.words ≡ length l.initial.words) × (l.words ≡ laid l.initial.words l.at (take l.i l.own))
