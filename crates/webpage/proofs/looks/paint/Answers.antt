-- `webpage::looks::paint` meets its contract: the words up to i are painted already.
-- Assumes nothing.
use Prim.Native.Nat.{ℕ, ◌+◌, ◌-◌, ◌≤◌, ◌<◌}
use mathlib.Core.Path.{◌≡◌, refl, ◌∙◌}
use mathlib.Core.List.{List}
use mathlib.Core.Logic.{⊎_elim}
use native.Mathlib.Nat.{eq-zero-or-pos}
use native.Mathlib.Omega.{arith}
use lib.ListN.{length, set, length-set}
use lib.Seq.{get_or-set_same, get_or-set_other}
use Rattle.webpage.specs.Looks.{Painted}
use Rattle.webpage.proofs.looks.paint.Goals as goal

one_more : {from i x : ℕ} {row after : List ℕ} → Painted from i x row after → from ≤ i → i < length after → Painted from (i + 1) x row (set after i x)
one_more {from} {i} {x} {row} {after} p f h = record {
  inside = λ j a b. ⊎_elim
      (λ (e : i - j ≡ 0). let s : j ≡ i = omega arith in rw s (get_or-set_same after i x 0 h))
      (λ (l : 0 < i - j). get_or-set_other after i j x 0 (λ e. omega arith) ∙ p.inside j a (omega arith))
      (eq-zero-or-pos (i - j));
  outside = λ j o. get_or-set_other after i j x 0 (λ e. let m : i + 1 ≤ j = o (omega arith) in omega arith) ∙ p.outside j (λ a. let m = o a in omega arith);
}

pub loop-i-init : goal.loop-i-init
loop-i-init c = (refl, omega arith, omega arith, record { inside = λ j a b. omega arith; outside = λ j o. refl })

pub loop-i-preserved : goal.loop-i-preserved
loop-i-preserved c =
    let l = c.loop-i in
    (length-set l.row l.i _ ∙ l.invariant.0, omega arith, omega arith, one_more l.invariant.3 l.invariant.1 (omega arith))

pub returns : goal.returns
returns c =
    let p = c.loop-i.invariant.3 in let least = c.min-i-end.ensures in record { painted = record { inside = λ j a b. p.inside j a (omega arith); outside = λ j o. p.outside j (λ a. let m = o a in omega arith) }; behind = λ j h. p.outside j (λ a. omega arith) }
