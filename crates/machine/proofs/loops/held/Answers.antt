-- The newest held cell holds a value.
use Rattle.machine.proofs.Told.{held_in_lem}
use Rattle.reals.proofs.Signed.{bits_pos}
use native.Mathlib.Omega.{arith}
use Rattle.machine.proofs.loops.held.Goals as goal

pub overflow_sub-room : goal.overflow_sub-room
overflow_sub-room c = omega (arith, c.requires.room, c.room.ensures)

pub cell_at-requires : goal.cell_at-requires
cell_at-requires c = omega (arith, c.requires.room, c.room.ensures, bits_pos _ c.if-h-eq0.false)

pub returns : goal.returns
returns c = held_in_lem c.args.n c.args.store.now c.requires c.room.ensures (bits_pos _ c.if-h-eq0.false) c.cell_at.ensures
