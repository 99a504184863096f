-- Those of each type behind the others.
use mathlib.Core.Path.{ap, ◌∙◌}
use Prim.Native.Nat.{◌+◌, ◌/◌, ◌%◌}
use mathlib.Core.List.{List}
use lib.IntN.{ℤ}
use native.Mathlib.Omega.{arith}
use Rattle.reals.specs.declared.Form.TheVariants.{Truths, Reals}
use Rattle.machine.specs.model.Holding.{room_of, unassigned, unassigned_all}
use Rattle.machine.proofs.Stacks.{room_unassigned}
use Rattle.machine.proofs.blocks.unassign_all.Goals as goal

pub unassign-requires : goal.unassign-requires
unassign-requires c = omega (arith, c.requires.0)

pub overflow_add-c : goal.overflow_add-c
unfolding room_of
overflow_add-c c = omega (arith, c.requires.0)

pub unassign-requires-2 : goal.unassign-requires-2
unassign-requires-2 c = rw (c.unassign.ensures, room_unassigned _ c.args.store.now c.args.c _) (omega (arith, c.requires.0))

pub overflow_add-c-2 : goal.overflow_add-c-2
unfolding room_of
overflow_add-c-2 c = omega (arith, c.requires.0)

pub overflow_add-c-3 : goal.overflow_add-c-3
unfolding room_of
overflow_add-c-3 c = omega (arith, c.requires.0)

pub unassign-requires-3 : goal.unassign-requires-3
unassign-requires-3 c = rw (c.unassign-2.ensures, c.unassign.ensures, room_unassigned _ _ _ _, room_unassigned _ c.args.store.now c.args.c _) (omega (arith, c.requires.0))

pub returns : goal.returns
unfolding unassigned_all
returns c =
    let args = c.args in
    c.unassign-3.ensures ∙ ap (λ (z : List ℤ). unassigned Truths z (args.c + args.v % 1024 + args.v / 1024 % 1024) (args.v / 1024 / 1024)) (c.unassign-2.ensures ∙ ap (λ (z : List ℤ). unassigned Reals z (args.c + args.v % 1024) (args.v / 1024 % 1024)) c.unassign.ensures)
