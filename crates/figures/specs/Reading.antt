-- How a text is read as a 64-bit real: a sign, digits with a point among them, and a power of ten behind an e. All the digits are one whole number, and the
-- fraction is rounded once, to nearest and a tie to even. Nothing here is run: it is what "gives the real back" means.
use Rattle.std.specs.Prelude.{ℕ, ◌+◌, ◌*◌, ◌-◌, ◌^◌, Bool, true, false, cond, List, [], ◌∷◌, length, eqb, Float}
use Rattle.std.specs.Float.{binary64}
use Rattle.std.specs.Float.Ieee.{round}

-- what stands before the first c, and what behind it
unfoldable pub before : ℕ → List ℕ → List ℕ
before c [] = []
before c (b ∷ l) = cond (eqb b c) [] (b ∷ before c l)

unfoldable pub behind : ℕ → List ℕ → List ℕ
behind c [] = []
behind c (b ∷ l) = cond (eqb b c) l (behind c l)

-- digits put behind the number n; a point is passed over
unfoldable pub onto : ℕ → List ℕ → ℕ
onto n [] = n
onto n (b ∷ l) = onto (cond (eqb b 46) n (n * 10 + (b - 48))) l

-- the power of ten where it is positive, and where it is negative
unfoldable pub raised : List ℕ → ℕ
raised [] = 0
raised (b ∷ l) = cond (eqb b 45) 0 (onto 0 (b ∷ l))

unfoldable pub lowered : List ℕ → ℕ
lowered [] = 0
lowered (b ∷ l) = cond (eqb b 45) (onto 0 l) 0

unfoldable pub read_size : Bool → List ℕ → Float
read_size s l =
    let m = before 101 l in
    let p = behind 101 l in
    round binary64 s (onto 0 m * 10 ^ raised p) (10 ^ (length (behind 46 m) + lowered p))

unfoldable pub read_text : List ℕ → Float
read_text [] = read_size false []
read_text (b ∷ l) = cond (eqb b 45) (read_size true l) (read_size false (b ∷ l))
