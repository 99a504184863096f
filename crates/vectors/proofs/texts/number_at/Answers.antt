-- `vectors::texts::number_at` meets its contract. The test of the first byte says which digits are read.
-- Assumes nothing.
use mathlib.Core.Path.{◌≡◌, ◌∙◌}
use mathlib.Core.Bool.{true, false}
use mathlib.Core.List.{List}
use Prim.Native.Nat.{ℕ, ◌+◌, ◌≤◌}
use native.Mathlib.Omega.{arith}
use lib.ListN.{length, get_or, get_or-eq_default}
use borrow.Author.Tests.{eq-eqb, ne_eqb}
use Rattle.vectors.specs.Listed.{digits_at, number_at}
use Rattle.vectors.proofs.texts.number_at.Goals as goal
use Rattle.vectors.proofs.texts.number_at.Goals.{then-from-text+else-text-from-eq45, else-from-text}

behind-minus : (s : List ℕ) (i : ℕ) → get_or s i 0 ≡ 45 → digits_at s (i + 1) true ≡ number_at s i
unfolding number_at
behind-minus s i h = rw (eq-eqb (get_or s i 0) 45 h)

no_minus : (s : List ℕ) (i : ℕ) → (get_or s i 0 ≡ 45 → ⊥) → digits_at s i false ≡ number_at s i
unfolding number_at
no_minus s i h = rw (ne_eqb (get_or s i 0) 45 h)

past : (s : List ℕ) (i : ℕ) → length s ≤ i → get_or s i 0 ≡ 45 → ⊥
past s i h e = omega (arith, get_or-eq_default s 0 h)

pub returns-then-text-from-eq45 : goal.returns-then-text-from-eq45
returns-then-text-from-eq45 c =
    let a = c.args in
    record { value_bound = c.digits_at.ensures.value_bound; value = c.digits_at.ensures.value ∙ behind-minus a.text.now a.from c.if-text-from-eq45.true }

pub returns : goal.returns
returns c =
    let a = c.args in
    record { value_bound = c.digits_at-2.ensures.value_bound; value = c.digits_at-2.ensures.value ∙ no_minus a.text.now a.from (elim c.if-from-text.branch [ then-from-text+else-text-from-eq45 w ↦ w.if-text-from-eq45.false | else-from-text w ↦ past a.text.now a.from w.if-from-text.false ]) }
