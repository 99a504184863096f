-- `uses::outside` is what the environment gives for an identity.
use Prim.Native.Nat.{◌≤◌, ◌<◌}
use borrow.Author.Tests.{lt-ltb, le-ltb}
use native.Mathlib.Omega.{arith}
use Rattle.names.specs.model.Rows.{outside_of}
use Rattle.names.proofs.uses.outside.Goals as goal

pub returns-in-Some : goal.returns-in-Some
unfolding outside_of
returns-in-Some c =
    let h = c.in-Some.ensures in
    let l : c.args.id ≤ 2052 = omega (arith, h.0, h.1) in
    rw (h.1, le-ltb _ _ h.0, le-ltb _ _ l)

pub returns-in_default : goal.returns-in_default
unfolding outside_of
returns-in_default c =
    let h = c.in-Some.ensures in
    let l : 2052 < c.args.id = omega (arith, h.0, h.1) in
    rw (le-ltb _ _ h.0, lt-ltb _ _ l)

pub returns-in_default-2 : goal.returns-in_default-2
unfolding outside_of
returns-in_default-2 c =
    let l : c.args.id < 2048 = omega (arith, c.in_default.ensures) in
    rw (lt-ltb _ _ l)
