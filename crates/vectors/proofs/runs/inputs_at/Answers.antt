-- `vectors::runs::inputs_at` meets its contract. The numbers that are stored, and those that are left to read, are all of them.
-- Assumes nothing.
use mathlib.Core.Path.{◌≡◌, refl, sym, ◌∙◌}
use mathlib.Core.List.{append-nil}
use Prim.Native.Nat.{◌≤◌, ◌<◌}
use native.Mathlib.Omega.{arith}
use native.Mathlib.Nat.{sub-zero}
use lib.ListN.{length, length-set, take}
use lib.Seq.{take-length}
use mir.Syntax.{w32}
use mir.Val.{to_z, of_z}
use mir.Facts.{to_z-of_z}
use Rattle.vectors.specs.Listed.{whole_of}
use Rattle.vectors.proofs.Laws.{numbers_end, after_end, after_one, stored_one}
use borrow.Author.Rules.{rules}
use Rattle.vectors.proofs.runs.inputs_at.Goals as goal

pub loop-i-init : goal.loop-i-init
loop-i-init c = (search rules, refl, rw sub-zero, rw sub-zero)

pub loop-i-preserved : goal.loop-i-preserved
loop-i-preserved c =
    let a = c.args in
    let l = c.loop-i in
    let n = c.number_at-n.result in
    let x : to_z w32 (of_z w32 c.whole.result) ≡ whole_of n = to_z-of_z {w = w32} {z = c.whole.result} (record { sfits = c.whole.type_inv }) ∙ c.whole.ensures in
    let k = c.loop-i-test.true in
    let h : l.i < length l.input = omega (arith, l.invariant.1, k) in (
      simp length-set (omega arith),
      simp length-set l.invariant.1,
      l.invariant.2 ∙ after_one a.text.now (length a.input.now) l.i l.at n c.number_at-n.ensures.value k,
      l.invariant.3 ∙ stored_one a.text.now (length a.input.now) l.i l.at n c.number_at-n.ensures.value l.input (to_z w32 (of_z w32 c.whole.result)) k h x,
    )

pub returns : goal.returns
returns c =
    let a = c.args in
    let l = c.loop-i in
    let k : length a.input.now ≤ l.i = omega (arith, l.invariant.1, c.loop-i-test.false) in
    let z : l.i ≡ length l.input = omega (arith, l.invariant.0, l.invariant.1, c.loop-i-test.false) in record { value = sym (l.invariant.2 ∙ after_end a.text.now (length a.input.now) l.i l.at k); input_after = sym (l.invariant.3 ∙ rw (numbers_end a.text.now (length a.input.now) l.i l.at k, append-nil (take l.i l.input), z) (take-length l.input)) }
