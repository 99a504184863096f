-- Whole numbers as they are shown: one of 64 bits that is not below 0 is a count, and so is −1 less one that is below 0.
use mathlib.Core.Path.{◌≡◌}
use mathlib.Core.Bool.{true, false, false≢true}
use Prim.Native.Nat.{ℕ, suc, ◌+◌, ◌-◌, ◌<◌}
use native.Mathlib.Omega.{arith}
use lib.Dec.{T, ltb}
use lib.IntN.{ℤ, pos, negsuc, nat_abs, ◌-ℤ◌}
use lib.Signed.{mag, le_z, non_neg}
use mir.Syntax.{w32, w64}
use mir.Val.{SFits, Fits, to_z, of_z}
use mir.Facts.{to_z-of_z}
use borrow.Author.Tests.{le-ltb, leb-false}

pub shown : (x : ℤ) → SFits w64 x → le_z (pos 0) x ≡ true → T (non_neg x) × Fits w64 (nat_abs x)
shown (pos n) h e = (tt, record { fits = omega (arith, h.sfits) })
shown (negsuc n) h e = absurd (false≢true e)

less : (n : ℕ) → negsuc 0 -ℤ negsuc n ≡ pos n
less n =
    let e : ltb (suc n) 1 ≡ false = le-ltb (suc n) 1 (omega arith) in
    let z : suc n - 1 ≡ n = omega arith in
    rw (e, z)

module _ (x : ℤ) (h : SFits w64 x) (e : le_z (pos 0) x ≡ false) where
  pub rest : (n : ℕ) × (negsuc 0 -ℤ x ≡ pos n) × (n < 9223372036854775808)
  rest = go x h e
    where
      go : (x : ℤ) → SFits w64 x → le_z (pos 0) x ≡ false → (n : ℕ) × (negsuc 0 -ℤ x ≡ pos n) × (n < 9223372036854775808)
      go (pos n) h e = absurd (omega (arith, leb-false 0 n e))
      go (negsuc n) h e = (n, less n, h.sfits)

  pub rest_fits : SFits w64 (negsuc 0 -ℤ x)
  rest_fits = rw rest.1 (record { sfits = rest.2 })

  pub rest_shown : T (non_neg (to_z w64 (of_z w64 (negsuc 0 -ℤ x)))) × Fits w64 (nat_abs (to_z w64 (of_z w64 (negsuc 0 -ℤ x))))
  rest_shown = rw (to_z-of_z rest_fits, rest.1) (tt, record { fits = omega (arith, rest.2) })

  pub rest_more : Fits w64 (nat_abs (to_z w64 (of_z w64 (negsuc 0 -ℤ x))) + 1)
  rest_more = rw (to_z-of_z rest_fits, rest.1) (record { fits = omega (arith, rest.2) })

-- a number of 32 bits is one of 64
pub wide : (v : ℤ) → mag v < 2147483648 → SFits w64 (to_z w32 (of_z w32 v))
wide v h = rw (to_z-of_z {w = w32} (record { sfits = h })) (record { sfits = omega arith })
