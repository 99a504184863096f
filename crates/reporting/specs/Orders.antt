-- "The order of the sets must not matter": what it is that one list is another, rearranged. Assumes nothing: this is a definition.
use Rattle.std.specs.Prelude.{List, [], ◌∷◌}

pub data Rearranged {A : Type 0} : List A → List A → Type 0 where
  nothing : Rearranged [] []
  keep : {x : A} {xs ys : List A} → Rearranged xs ys → Rearranged (x ∷ xs) (x ∷ ys)
  swap : {x y : A} {xs : List A} → Rearranged (x ∷ y ∷ xs) (y ∷ x ∷ xs)
  both_ways : {xs ys zs : List A} → Rearranged xs ys → Rearranged ys zs → Rearranged xs zs
