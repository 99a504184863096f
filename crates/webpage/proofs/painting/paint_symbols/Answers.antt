-- `webpage::painting::paint_symbols` meets its contract: what a symbol is painted with marks nothing, and lies in the source.
-- Assumes nothing.
use Prim.Native.Nat.{ℕ, ◌+◌, ◌-◌, ◌≤◌, min}
use mathlib.Core.Path.{refl, ◌∙◌}
use mathlib.Core.List.{List}
use mathlib.Core.Logic.{⊎_elim}
use native.Mathlib.Nat.{eq-zero-or-pos}
use native.Mathlib.Omega.{arith}
use Rattle.webpage.specs.Looks.{Painted, Unmarked, Unmarking}
use Rattle.webpage.proofs.painting.paint_symbols.Goals as goal

more : {n from to x : ℕ} {row mid after : List ℕ} → Unmarking n row mid → Painted from to x mid after → to ≤ n → Unmarked x → Unmarking n row after
more {from = from} {to = to} u p l m = record {
  behind = λ i h. p.outside i (λ a. omega arith) ∙ u.behind i h;
  kept = λ i g. ⊎_elim
      (λ e. rw (p.outside i (λ a. omega arith)) (u.kept i g))
      (λ h. rw (p.inside i (omega arith) (omega arith)) m)
      (eq-zero-or-pos (min (to - i) (i + 1 - from)));
}

pub loop-k-init : goal.loop-k-init
loop-k-init c = (omega arith, omega arith, refl, refl, record { behind = λ i h. refl; kept = λ i g. g }, λ i h. refl)

pub returns-then-source-at : goal.returns-then-source-at
returns-then-source-at c = record { unmarking = c.loop-k.invariant.4; behind = c.loop-k.invariant.5 }

pub loop-k-preserved : goal.loop-k-preserved
loop-k-preserved c =
    let l = c.loop-k in (
      omega (arith, c.loop-k-test.true),
      omega (arith, l.invariant.1),
      c.paint.auto.row ∙ l.invariant.2,
      c.pass-open.auto.levels ∙ l.invariant.3,
      more l.invariant.4 c.paint.ensures.painted (omega arith) (omega arith),
      λ i h. c.pass-open.ensures i (omega arith) ∙ l.invariant.5 i h,
    )

pub returns : goal.returns
returns c = record { unmarking = c.loop-k.invariant.4; behind = c.loop-k.invariant.5 }
