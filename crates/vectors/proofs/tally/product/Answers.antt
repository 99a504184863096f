-- `vectors::tally::product` meets its contract. The product of two numbers of 32 bits is one of 64.
-- Assumes nothing.
use Prim.Native.Nat.{ℕ, ◌*◌, ◌<◌}
use native.Mathlib.Omega.{arith}
use native.Mathlib.Nat.{le_of_lt, lt_of_le_of_lt, mul-le-mul_left, mul-lt-mul_of_pos_right}
use borrow.Author.Rules.{rules}
use Rattle.vectors.proofs.tally.product.Goals as goal

below : {a b : ℕ} → a < 4294967296 → b < 4294967296 → a * b < 18446744073709551616
below {a} {b} ha hb = lt_of_le_of_lt (mul-le-mul_left a (le_of_lt hb)) (mul-lt-mul_of_pos_right ha (omega arith))

pub overflow_mul-result : goal.overflow_mul-result
overflow_mul-result c = record { fits = below (search rules) (search rules) }
