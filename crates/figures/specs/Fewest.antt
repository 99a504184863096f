-- The fewest digits that give a 64-bit real back.
-- A finite real with the exponent's field x and the digits' field t is, in size, m · 2 ^ (y - 1075): m is t, and 2 ^ 52 more where x is not 0; y is x, or 1 where x is 0.
-- All is worked out in 32nds of its last binary place, so that each number here has at least 18 decimal digits, and as whole numbers:
-- n of those 32nds are n · 2 ^ (y - 1080), which is scaled y n / 10 ^ (1080 - y). (Here a - b is 0 where b is greater.)
use Rattle.std.specs.Prelude.{ℕ, zero, suc, ◌+◌, ◌*◌, ◌-◌, ◌/◌, ◌%◌, ◌^◌, ◌≤◌, ◌<◌, ◌≡◌, ◌⊎◌, Bool, cond, ◌&&◌, leb, ltb, eqb}
use Rattle.std.specs.Float.Ieee.Nearest.{closest}
use Rattle.figures.specs.Digits.{places_to}
use Rattle.figures.specs.declared.fewest.Decimal.{Decimal}

unfoldable pub scaled : ℕ → ℕ → ℕ
scaled y n = n * 2 ^ (y - 1080) * 5 ^ (1080 - y)

-- A decimal gives the real back where it is between those half way to the real's neighbours; at either end a tie goes to the even m.
-- So it is from `lowest` on, one more than the one half way where m is odd, and below `beyond`, one more where m is even; `under` is how many 32nds it is half way down.
unfoldable pub lowest : ℕ → ℕ → ℕ → ℕ
lowest m under y = scaled y (32 * m - under) + m % 2

unfoldable pub beyond : ℕ → ℕ → ℕ
beyond m y = scaled y (32 * m + 16) + (1 - m % 2)

unfoldable pub between : ℕ → ℕ → ℕ → Bool
between low high x = leb low x && ltb x high

-- the decimal of the digits of v above the j lowest that is nearest to v (a tie to the even one, as C prints it)
unfoldable pub near : ℕ → ℕ → ℕ
near v j = closest v (10 ^ j)

-- the first number of digits from p on, at most n more, of which the nearest decimal gives the real back; v has t digits
unfoldable pub least_from : ℕ → ℕ → ℕ → ℕ → ℕ → ℕ → ℕ
least_from v low high t zero p = p
least_from v low high t (suc n) p = cond (between low high (near v (t - p) * 10 ^ (t - p))) p (least_from v low high t n (suc p))

-- v has t digits, at least 18, and low and high have at most one more
pub record Ready (v low high t : ℕ) : Type 0 where
  pub many : 18 ≤ t
  pub few : t ≤ 772
  pub under : v < 10 ^ t
  pub under_low : low < 10 ^ (t + 1)
  pub under_high : high < 10 ^ (t + 1)

-- the fewest digits, from 1 to 17
unfoldable pub least : ℕ → ℕ → ℕ → ℕ → ℕ
least v low high t = least_from v low high t 16 1

-- without the 0 of one digit that was rounded up to ten
unfoldable pub trimmed : ℕ → ℕ → ℕ → Decimal
trimmed c up down = cond (eqb (c % 10) 0) (record { figures = c / 10; up = up + 1; down = down }) (record { figures = c; up = up; down = down })

-- of v, with t digits of which p are written
unfoldable pub cut : ℕ → ℕ → ℕ → ℕ → Decimal
cut v t p down = trimmed (near v (t - p)) (t - p) down

-- of m · 2 ^ (y - 1075), whose lower neighbour is `under` 16ths of the last place below it
unfoldable pub decimal_of : ℕ → ℕ → ℕ → Decimal
decimal_of m under y =
    let v = scaled y (32 * m) in
    let t = places_to 772 v in
    cut v t (least v (lowest m under y) (beyond m y) t) (1080 - y)

-- m, y and `under` by the two fields: the lower neighbour of a power of two above the smallest normal one is half as far
unfoldable pub whole_of : ℕ → ℕ → ℕ
whole_of x t = cond (eqb x 0) t (2 ^ 52 + t)

unfoldable pub place_of : ℕ → ℕ
place_of x = cond (eqb x 0) 1 x

unfoldable pub under_of : ℕ → ℕ → ℕ
under_of x t = cond (eqb t 0 && ltb 1 x) 8 16

unfoldable pub figures_of : ℕ → ℕ → Decimal
figures_of x t = cond (eqb (whole_of x t) 0) (record { figures = 0; up = 0; down = 0 }) (decimal_of (whole_of x t) (under_of x t) (place_of x))

-- the decimal of p digits that is nearest to m · 2 ^ (y - 1075): over 10 ^ (1080 - y)
unfoldable pub of_digits : ℕ → ℕ → ℕ → ℕ
of_digits m y p =
    let v = scaled y (32 * m) in
    let j = places_to 772 v - p in
    near v j * 10 ^ j

-- ---- what the steps ask of each other

-- m and y of a finite real that is not 0: a normal one has all its 53 binary digits, any other has the least exponent
pub record Finite (m under y : ℕ) : Type 0 where
  pub some : 0 < m
  pub few : m < 2 ^ 53
  pub near : under ≤ 16
  pub least : 0 < y
  pub most : y ≤ 2046
  pub normal : (2 ^ 52 ≤ m) ⊎ (y ≡ 1)

-- at most 17 digits, and a power of ten that a real has
pub record Small (d : Decimal) : Type 0 where
  pub figures : d.figures < 10 ^ 17
  pub up : d.up < 1000
  pub down : d.down < 1100
