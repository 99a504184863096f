-- `vectors::texts::whole` meets its contract. A number that is not over 2 ^ 31 is one of 32 bits below 0; below 2 ^ 31 it is one at or above 0.
-- Assumes nothing.
use mathlib.Core.Path.{◌≡◌, sym, ◌∙◌}
use mathlib.Core.Bool.{Bool, true, false, cond}
use borrow.Author.Tests.{lt-ltb, le-ltb}
use Prim.Native.Nat.{ℕ, zero, suc, ◌≤◌, ◌<◌}
use native.Mathlib.Omega.{arith}
use lib.IntN.{pos, neg_ℤ, ◌-ℤ◌, +ℤ_idl}
use lib.Signed.{mag}
use mir.Syntax.{w32, w64}
use mir.Val.{SFits, to_z, of_z}
use mir.Facts.{to_z-of_z, to_z_pos}
use borrow.Author.Rules.{rules}
use Rattle.vectors.specs.declared.texts.Numeral.{Numeral}
use Rattle.vectors.specs.Listed.{signed, whole_of}
use Rattle.vectors.proofs.texts.whole.Goals as goal

mag-neg : (n : ℕ) → n ≤ 2147483648 → mag (neg_ℤ (pos n)) < 2147483648
mag-neg zero h = omega arith
mag-neg (suc n) h = omega arith

-- at either width
less : (n : ℕ) → n ≤ 2147483648 → mag (pos 0 -ℤ to_z w64 n) < 2147483648
less n h =
    let e : to_z w64 n ≡ pos n = to_z_pos w64 (omega arith) in
    rw (e, +ℤ_idl (neg_ℤ (pos n))) (mag-neg n h)

cast : (n : ℕ) → n ≤ 2147483648 → SFits w32 (to_z w64 (of_z w64 (pos 0 -ℤ to_z w64 n)))
cast n h =
    let f : SFits w64 (pos 0 -ℤ to_z w64 n) = record { sfits = omega (arith, less n h) } in
    rw (to_z-of_z f) (record { sfits = less n h })

-- ---- the listed number, by its parts
mag-far : (n : ℕ) → 2147483648 < n → 2147483648 ≤ mag (neg_ℤ (pos n))
mag-far zero h = omega arith
mag-far (suc n) h = omega arith

is_none : (n : Numeral) → 2147483648 ≤ mag (signed n) → pos 0 ≡ whole_of n
unfolding whole_of
is_none n h = rw (le-ltb (mag (signed n)) 2147483648 h)

is_one : (n : Numeral) → mag (signed n) < 2147483648 → signed n ≡ whole_of n
unfolding whole_of
is_one n h = rw (lt-ltb (mag (signed n)) 2147483648 h)

far-off : (minus : Bool) (v : ℕ) → 2147483648 < v → 2147483648 ≤ mag (cond minus (neg_ℤ (pos v)) (pos v))
far-off true v h = mag-far v h
far-off false v h = omega arith

below-zero : (n : Numeral) → n.minus ≡ true → n.value ≤ 2147483648 → neg_ℤ (pos n.value) ≡ whole_of n
below-zero n e h =
    let s : signed n ≡ neg_ℤ (pos n.value) = rw e in
    sym s ∙ is_one n (rw s (mag-neg n.value h))

too_large : (n : Numeral) → n.minus ≡ false → n.value ≡ 2147483648 → pos 0 ≡ whole_of n
too_large n e h =
    let s : signed n ≡ pos n.value = rw e in
    is_none n (rw s (omega arith))

above_zero : (n : Numeral) → n.minus ≡ false → n.value < 2147483648 → pos n.value ≡ whole_of n
above_zero n e h =
    let s : signed n ≡ pos n.value = rw e in
    sym s ∙ is_one n (rw s h)

-- ---- the two casts
narrowed : (n : ℕ) → n ≤ 2147483648 → to_z w32 (of_z w32 (to_z w64 (of_z w64 (pos 0 -ℤ to_z w64 n)))) ≡ neg_ℤ (pos n)
narrowed n h =
    let e : to_z w64 n ≡ pos n = to_z_pos w64 (omega arith) in
    let f : SFits w64 (pos 0 -ℤ to_z w64 n) = record { sfits = omega (arith, less n h) } in
    let g : SFits w32 (pos 0 -ℤ to_z w64 n) = record { sfits = less n h } in
    rw (to_z-of_z f) (to_z-of_z g ∙ rw e (+ℤ_idl (neg_ℤ (pos n))))

pub returns-then-value-gt2147483648 : goal.returns-then-value-gt2147483648
returns-then-value-gt2147483648 c =
    let args = c.args in
    is_none args.n (far-off args.n.minus args.n.value c.if-value-gt2147483648.true)

pub overflow_sub-result : goal.overflow_sub-result
overflow_sub-result c = record { sfits = omega (arith, less c.args.n.value (search rules)) }

pub overflow_cast-result-then-n : goal.overflow_cast-result-then-n
overflow_cast-result-then-n c = cast c.args.n.value (search rules)

pub returns-then-n : goal.returns-then-n
returns-then-n c =
    let n = c.args.n in
    narrowed n.value (search rules) ∙ below-zero n c.if-n.true (search rules)

pub returns-then-value-eq2147483648 : goal.returns-then-value-eq2147483648
returns-then-value-eq2147483648 c = too_large c.args.n c.if-n.false c.if-value-eq2147483648.true

pub returns : goal.returns
returns c =
    let n = c.args.n in
    let h : n.value < 2147483648 = search rules in
    to_z_pos w32 h ∙ above_zero n c.if-n.false h
