-- Two names told letter by letter.
-- Assumes nothing.
use mathlib.Core.Path.{◌≡◌, refl}
use mathlib.Core.Bool.{Bool, true, false, not}
use mathlib.Core.List.{List, [], ◌∷◌}
use Prim.Native.Nat.{ℕ, ◌-◌, ◌<◌}
use lib.Dec.{eqb}
use lib.ListN.{length}
use Rattle.std.specs.Option.{is_some, is_none, IfSome}
use Rattle.std.specs.Prelude.{Option, Some, None}
use Rattle.symbols.specs.Names.{equal, folded, same_name}
use Rattle.symbols.specs.model.Steps.{rest_of, NextLetter}

-- ---- letter by letter

module _ (x y : ℕ) (xs ys : List ℕ) where
  pub letters_differ : eqb (folded x) (folded y) ≡ false → same_name (x ∷ xs) (y ∷ ys) ≡ false
  unfolding same_name equal
  letters_differ n = rw n

  pub letters_on : (xs' ys' : List ℕ) → eqb (folded x) (folded y) ≡ true → xs ≡ xs' → ys ≡ ys' → same_name (x ∷ xs) (y ∷ ys) ≡ same_name xs' ys'
  unfolding same_name equal
  letters_on xs' ys' e p q = rw (e, p, q)

pub letters_over : (x : ℕ) (xs : List ℕ) → same_name (x ∷ xs) [] ≡ false
unfolding same_name equal
letters_over x xs = refl

pub letters_end : (s : List ℕ) (j : Option ℕ) → same_name [] (rest_of s j) ≡ is_none j
unfolding same_name equal
letters_end s None = refl
letters_end s (Some q) = refl

-- ---- how much of the source is left

abbrev pub left : List ℕ → Option ℕ → ℕ
left s None = 0
left s (Some p) = length s - p

pub within_source : (s : List ℕ) (from : ℕ) (r : Option ℕ) → NextLetter s from r → IfSome r (λ q. q < length s)
within_source s from None n = tt
within_source s from (Some i) n = n.within.1

pub none_left : (o : Option ℕ) (t : Bool) → is_some o ≡ not t → t ≡ is_none o
none_left o true h = rw h refl
none_left o false h = rw h refl
