-- What is open: the first n numbers of an array, the newest first. A number set behind them is one more; all but the newest are one less.
use Prim.Native.Nat.{ℕ, zero, suc, ◌+◌, ◌-◌, ◌≤◌, ◌<◌}
use mathlib.Core.Path.{◌≡◌, refl, ap, ◌∙◌}
use mathlib.Core.List.{List, [], ◌∷◌}
use native.Mathlib.Omega.{arith}
use native.Mathlib.Numerals.{add-one}
use lib.ListN.{length, get_or, set, length-set}
use lib.Seq.{get_or-set_same, get_or-set_other}
use Rattle.clean.specs.model.Lines.{below, base}
use Rattle.clean.specs.model.Pen.{Low, stack_of, top_of, Pushed}

stack_set : (held : List ℕ) (n i v : ℕ) → n ≤ i → stack_of n (set held i v) ≡ stack_of n held
stack_set held zero i v h = refl
stack_set held (suc n) i v h =
    let e : get_or (set held i v) n 0 ≡ get_or held n 0 = get_or-set_other held i n v 0 (omega arith) in
    ap (λ x. x ∷ stack_of n (set held i v)) e ∙ ap (λ l. get_or held n 0 ∷ l) (stack_set held n i v (omega arith))

pub pushed : (held : List ℕ) (n v : ℕ) → n < length held → Pushed held (set held n v) n v
pushed held n v h = record {
  size = length-set held n v;
  stack = rw (add-one n) (ap (λ x. x ∷ stack_of n (set held n v)) (get_or-set_same held n v 0 h) ∙ ap (λ l. v ∷ l) (stack_set held n n v (omega arith)));
}

pub top_is : (held : List ℕ) (n : ℕ) → (n ≡ 0 → ⊥) → get_or held (n - 1) 0 ≡ top_of (stack_of n held)
top_is held zero h = absurd (h refl)
top_is held (suc n) h = let e : suc n - 1 ≡ n = omega arith in ap (λ m. get_or held m 0) e

pub top_none : (held : List ℕ) (n : ℕ) → n ≡ 0 → 0 ≡ top_of (stack_of n held)
top_none held n e = rw e

pub below_is : (held : List ℕ) (n : ℕ) → stack_of (n - 1) held ≡ below (stack_of n held)
below_is held zero = refl
below_is held (suc n) = let e : suc n - 1 ≡ n = omega arith in ap (λ m. stack_of m held) e

-- behind a body that ends
pub base_body : (st : List ℕ) → top_of st ≡ 0 → base st ≡ below st
base_body [] e = refl
base_body (zero ∷ st) e = refl
base_body (suc u ∷ st) e = absurd (omega arith)

pub base_block : (st : List ℕ) → (top_of st ≡ 0 → ⊥) → base st ≡ st
base_block [] e = refl
base_block (zero ∷ st) e = absurd (e refl)
base_block (suc u ∷ st) e = refl

pub low_top : (n : ℕ) (st : List ℕ) → Low n st → top_of st ≤ n
low_top n [] h = omega arith
low_top n (x ∷ st) h = h.0

pub low_below : (n : ℕ) (st : List ℕ) → Low n st → Low n (below st)
low_below n [] h = tt
low_below n (x ∷ st) h = h.1

pub low_base : (n : ℕ) (st : List ℕ) → Low n st → Low n (base st)
low_base n [] h = tt
low_base n (zero ∷ st) h = h.1
low_base n (suc u ∷ st) h = h

pub low_more : (n : ℕ) (st : List ℕ) → Low n st → Low (n + 1) st
low_more n [] h = tt
low_more n (x ∷ st) h = (omega (arith, h.0), low_more n st h.1)

pub low_up : (n m : ℕ) (st : List ℕ) → n ≤ m → Low n st → Low m st
low_up n m [] l h = tt
low_up n m (x ∷ st) l h = (omega (arith, h.0), low_up n m st l h.1)
