-- How a real is written: a sign where it is negative, and plain where it is 0 or from 0.000001 on and below 10 ^ 15: 1234.56, 0.05, -3.0;
-- otherwise with a power of ten behind an e: 1.5e300, 5.0e-324. There is always a point with a digit on either side, so that a real is told from a whole number.
use Rattle.std.specs.Prelude.{ℕ, zero, suc, ◌+◌, ◌*◌, ◌-◌, ◌/◌, ◌%◌, ◌^◌, ◌<◌, ◌≤◌, max, Bool, cond, ◌&&◌, List, [], ◌∷◌, ◌++◌, ◌≡◌, length, take, drop, leb, ltb, eqb}
use Rattle.figures.specs.Digits.{places_to}
use Rattle.figures.specs.Fewest.{figures_of, Small}
use Rattle.figures.specs.declared.fewest.Decimal.{Decimal}

-- the n lowest digits of a number, the highest first
unfoldable pub numeral : ℕ → ℕ → List ℕ
numeral zero c = []
numeral (suc n) c = numeral n (c / 10) ++ (48 + c % 10) ∷ []

-- how many digits it takes to write a number below 10 ^ 20; 0 takes one
unfoldable pub width : ℕ → ℕ
width c = max 1 (places_to 20 c)

-- c / 10 ^ f with f digits behind the point
unfoldable pub pointed : ℕ → ℕ → List ℕ
pointed c f = numeral (width (c / 10 ^ f)) (c / 10 ^ f) ++ 46 ∷ numeral f c

-- the power of ten a - b
unfoldable pub power : ℕ → ℕ → List ℕ
power a b = 101 ∷ cond (leb b a) (numeral (width (a - b)) (a - b)) (45 ∷ numeral (width (b - a)) (b - a))

-- whether figures · 10 ^ up / 10 ^ down is 0, or is from 10 ^ -6 on and below 10 ^ 15; n digits are written
unfoldable pub plain : ℕ → Decimal → Bool
plain n d = leb (n + d.up) (d.down + 15) && leb d.down (n + d.up + 5)

-- with a digit behind the point, even where it is 0
unfoldable pub plainly : Decimal → List ℕ
plainly d = cond (leb d.down d.up) (pointed (d.figures * 10 ^ (d.up - d.down + 1)) 1) (pointed d.figures (d.down - d.up))

-- one digit before the point
unfoldable pub scientific : ℕ → Decimal → List ℕ
scientific n d = cond (ltb n 2) (pointed (d.figures * 10) 1 ++ power d.up d.down) (pointed d.figures (n - 1) ++ power (n - 1 + d.up) d.down)

unfoldable pub decimal_text : Decimal → List ℕ
decimal_text d = let n = places_to 20 d.figures in cond (plain n d) (plainly d) (scientific n d)

-- the real with these 64 bits: sign, exponent's field, digits' field; nothing for what is no finite number, which no run writes
unfoldable pub written : ℕ → List ℕ
written b = let x = b / 2 ^ 52 % 2048 in cond (eqb x 2047) [] (cond (leb (2 ^ 63) b) (45 ∷ []) [] ++ decimal_text (figures_of x (b % 2 ^ 52)))

-- ---- what is written stays below 32 bytes

pub record Plain (d : Decimal) : Type 0 where
  pub small : Small d
  pub below : d.figures * 10 ^ (d.up - d.down + 1) < 10 ^ 18
  pub behind : d.down ≤ d.up + 22

-- ---- what a function leaves in a row

-- the bytes bs from `at` on up to `to`, and what was there before in every other place
pub record Puts (old now : List ℕ) (at to : ℕ) (bs : List ℕ) : Type 0 where
  pub size : length now ≡ length old
  pub holds : now ≡ take at old ++ (bs ++ drop (at + length bs) old)
  pub behind : to ≡ at + length bs

-- the real at the front of a row of at least 32 bytes, and how many bytes it has; a shorter row is left as it is
pub record Row (old now : List ℕ) (n b : ℕ) : Type 0 where
  pub counted : n ≡ cond (leb 32 (length old)) (length (written b)) 0
  pub stands : now ≡ cond (leb 32 (length old)) (written b) [] ++ drop n old
  pub size : length now ≡ length old
  pub within : n ≤ length now
