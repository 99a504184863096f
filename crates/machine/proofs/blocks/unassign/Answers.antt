-- So many of the cells are unassigned already.
use mathlib.Core.Path.{◌≡◌, refl, ap, ◌∙◌}
use Prim.Native.Nat.{◌+◌}
use native.Mathlib.Omega.{arith}
use lib.ListN.{length}
use lib.IntN.{ℤ}
use mathlib.Core.List.{List}
use Rattle.reals.specs.declared.Cell.TheVariants.{Unset}
use Rattle.machine.specs.model.Holding.{unassigned, room_of, put_at}
use Rattle.machine.proofs.Stacks.{room_unassigned, length_unassigned, unassigned_more}
use Rattle.machine.proofs.blocks.unassign.Goals as goal

pub loop-i-init : goal.loop-i-init
unfolding unassigned
loop-i-init c = (refl, refl, refl)

pub overflow_add-c : goal.overflow_add-c
unfolding room_of
overflow_add-c c = omega arith

pub put_cell-requires : goal.put_cell-requires
put_cell-requires c = omega (arith, c.loop-i.invariant.1, c.requires)

pub loop-i-preserved : goal.loop-i-preserved
loop-i-preserved c =
    let s = c.args.store.now in
    let t = c.args.form in
    let e = c.put_cell.ensures ∙ ap (λ (z : List ℤ). put_at z (c.args.c + c.loop-i.i) (Unset t)) c.loop-i.invariant.0 ∙ unassigned_more t s c.args.c c.loop-i.i in
    (e, ap room_of e ∙ room_unassigned t s c.args.c (c.loop-i.i + 1), ap (λ (z : List ℤ). length z) e ∙ length_unassigned t s c.args.c (c.loop-i.i + 1))

pub shape_of-store : goal.shape_of-store
shape_of-store c = c.loop-i.invariant.2

pub returns : goal.returns
returns c = let e : c.loop-i.i ≡ c.args.k = omega (arith, c.loop-i.auto.i-end, c.loop-i-test.false) in c.loop-i.invariant.0 ∙ ap (unassigned c.args.form c.args.store.now c.args.c) e
