-- `reading::moving::beyond` meets its contract. The invariant: the first i were raised; the others stand as they stood, and are small. Assumes nothing.
use lib.ListN.{take}
use Rattle.reading.proofs.Moves.{Raising}
use Rattle.reading.proofs.moving.beyond.Given as goal

abbrev pub invariant-loop-place : goal.invariant-loop-place
invariant-loop-place l = Raising (take l.count l.fn.places) l.place-items 32768 l.count l.place-index
