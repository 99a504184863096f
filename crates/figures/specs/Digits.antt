-- Whole numbers as lists of their decimal digits, the lowest first.
use Rattle.std.specs.Prelude.{ℕ, zero, suc, ◌+◌, ◌*◌, ◌^◌, ◌<◌, ◌≡◌, cond, List, [], ◌∷◌, length, get_or, ltb}

-- the number that digits spell
unfoldable pub value : List ℕ → ℕ
value [] = 0
value (d ∷ l) = d + 10 * value l

-- each is a digit
abbrev pub Digits : List ℕ → Type 0
Digits l = (i : ℕ) → get_or l i 0 < 10

-- 772 of them, which are enough for every real
pub record Number (l : List ℕ) : Type 0 where
  pub size : length l ≡ 772
  pub digits : Digits l

pub record Spells (l : List ℕ) (n : ℕ) : Type 0 where
  pub number : Number l
  pub spelt : value l ≡ n

-- how many digits a number below 10 ^ t has; 0 has none
unfoldable pub places_to : ℕ → ℕ → ℕ
places_to zero n = 0
places_to (suc t) n = cond (ltb n (10 ^ t)) (places_to t n) (suc t)
