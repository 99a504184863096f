-- As many numbers as there are stand in the first of the room.
use Prim.Native.Nat.{ℕ, zero, suc, ◌+◌, ◌<◌, min}
use mathlib.Core.Path.{◌≡◌, refl, ap, ◌∙◌}
use mathlib.Core.List.{List, [], ◌∷◌, ◌++◌}
use native.Mathlib.Omega.{arith}
use native.Mathlib.Nat.{not-suc-le-zero, le_of_suc-le-suc}
use native.Mathlib.Numerals.{add-one}
use lib.IntN.{ℤ, pos}
use lib.ListN.{length, get_or, take, drop, set, length-set}
use mir.Syntax.{w64}
use mir.Facts.{to_z-of_z}
use Rattle.reporting.specs.declared.Report.{Report}
use Rattle.reporting.specs.Numbers.{figures_of, figures_in}
use Rattle.reporting.proofs.numbers.figures_into.Goals as goal

-- one more of ys over zs
lay-more : (ys zs : List ℤ) (i : ℕ) → i < length ys → i < length zs → set (take i ys ++ drop i zs) i (get_or ys i (pos 0)) ≡ take (suc i) ys ++ drop (suc i) zs
lay-more [] zs i h k = absurd (not-suc-le-zero h)
lay-more (y ∷ ys) [] i h k = absurd (not-suc-le-zero k)
lay-more (y ∷ ys) (z ∷ zs) zero h k = refl
lay-more (y ∷ ys) (z ∷ zs) (suc i) h k = ap (λ (l : List ℤ). y ∷ l) (lay-more ys zs i (le_of_suc-le-suc h) (le_of_suc-le-suc k))

one_more : (r : Report) (zs l : List ℤ) (i : ℕ) {x : ℤ} → i < 16 → i < length zs → l ≡ take i (figures_of r) ++ drop i zs → x ≡ get_or (figures_of r) i (pos 0)
    → set l i x ≡ take (i + 1) (figures_of r) ++ drop (i + 1) zs
one_more r zs l i h k e f = rw (add-one, e, f) (lay-more (figures_of r) zs i h k)

all_there : (r : Report) (zs l : List ℤ) (i : ℕ) → l ≡ take i (figures_of r) ++ drop i zs → i ≡ min 16 (length zs) → l ≡ figures_in r zs
unfolding figures_in
all_there r zs l i e h = e ∙ ap (λ (n : ℕ). take n (figures_of r) ++ drop n zs) h

pub loop-k-init : goal.loop-k-init
loop-k-init c = (refl, refl)

pub loop-k-preserved : goal.loop-k-preserved
loop-k-preserved c =
    let l = c.loop-k in
    let a = c.args in
    let e = to_z-of_z {w = w64} {z = c.figure.result} (record { sfits = c.figure.type_inv }) ∙ c.figure.ensures in
    (length-set l.room l.k _ ∙ l.invariant.0, one_more a.r a.room.now l.room l.k (omega (arith, c.loop-k-test.true, c.min-k-end.ensures)) (omega (arith, c.loop-k-test.true, c.min-k-end.ensures)) l.invariant.1 e)

pub returns : goal.returns
returns c =
    let l = c.loop-k in
    all_there c.args.r c.args.room.now l.room l.k l.invariant.1 (omega (arith, c.loop-k-test.false, c.min-k-end.ensures, l.auto.k-end))
