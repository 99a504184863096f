-- So many of the cells are unassigned already.
use mathlib.Core.Path.{◌≡◌}
use lib.ListN.{length}
use Rattle.machine.specs.model.Holding.{unassigned, room_of}
use Rattle.machine.proofs.blocks.unassign.Given as goal

abbrev pub invariant-loop-i : goal.invariant-loop-i
invariant-loop-i l = (l.store ≡ unassigned l.form l.initial.store l.c l.i) × (room_of l.store ≡ room_of l.initial.store) × (length l.store ≡ length l.initial.store)
