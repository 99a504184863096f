-- `emitting::emission::stored` meets its contract. The loop's invariant: n left parts are to be stored yet, and with them the state comes to what
-- all of them make of the first one.
use mathlib.Core.Path.{◌≡◌, refl, sym, ap, ◌∙◌}
use native.Mathlib.Omega.{arith}
use mathlib.Core.Bool.{cond}
use mathlib.Core.List.{[]}
use Prim.Native.Nat.{◌-◌}
use lib.Dec.{eqb}
use Rattle.emitting.specs.model.Emission.{Opened, top, on_cell, stored, lefts_of}
use Rattle.emitting.specs.model.Arrays.{things_of, seen, see}
use Rattle.emitting.proofs.LeftParts.{stored_step}
use Rattle.emitting.proofs.Counters.{left_third}
use Rattle.emitting.proofs.emission.stored.Goals as goal

pub loop-n-init : goal.loop-n-init
loop-n-init c = (omega arith, refl, omega arith, refl, λ vs ly ks es us ah en. refl)

pub on_cell-t-requires : goal.on_cell-t-requires
on_cell-t-requires c =
    let m = c.args.t.open in
    let n = c.loop-n.n - 1 in
    let s = c.args.things.now in
    let q : seen c.left_at-f.result ≡ top (things_of (m - n) s) = rw c.loop-n.invariant.1 at c.left_at-f.ensures in
    let q₁ : c.left_at-f.result.third ≡ (top (things_of (m - n) s)).third = ap (λ (f : Opened). f.third) q in
    let w = left_third 262143 m n s c.requires.2 in
    let a = c.loop-n.invariant.2 in
    let b = c.requires.0 in
    let d = c.storing.ensures.upper_bound in
    let h = c.loop-n-test.true in
    (omega arith, omega arith, omega arith, omega arith)

pub loop-n-preserved : goal.loop-n-preserved
loop-n-preserved c =
    let m = c.args.t.open in
    let n = c.loop-n.n - 1 in
    let s = c.args.things.now in
    let q : seen c.left_at-f.result ≡ top (things_of (m - n) s) = rw c.loop-n.invariant.1 at c.left_at-f.ensures in
    let z = c.loop-n.t in
    let h = c.loop-n-test.true in
    let a = c.loop-n.invariant.2 in
    let b = c.on_cell-t.ensures.alike.1 in
    let i = c.loop-n.invariant.0 in (
      omega arith,
      c.on_cell-t.ensures.alike.2 ∙ c.loop-n.invariant.1,
      omega arith,
      c.on_cell-t.auto.code ∙ c.loop-n.invariant.3,
      λ vs ly ks es us ah en. ap (stored vs ly ks es (lefts_of vs ly ks es n (things_of m s) [])) ((rw c.storing.ensures.value at (c.on_cell-t.ensures.en_after us s ah en))
          ∙ ap (λ (f : Opened). on_cell (cond (eqb n 0) 14 15) f.third f.third f.second (see z us s c.loop-n.code ah en)) q)
          ∙ sym (stored_step vs ly ks es c.loop-n.n m s (see z us s c.loop-n.code ah en) h) ∙ c.loop-n.invariant.4 vs ly ks es us ah en,
    )

pub returns : goal.returns
unfolding stored lefts_of
returns c =
    let h = c.loop-n-test.false in
    let z : c.loop-n.n ≡ 0 = omega arith in
    λ vs ly ks es us ah en. rw z at (c.loop-n.invariant.4 vs ly ks es us ah en)
