-- Which 64 bits are a finite real's: those whose exponent is not all ones.
use Rattle.std.proofs.Common.{◌≡◌, ℕ, zero, suc, ◌+◌, ◌*◌, ◌/◌, ◌%◌, Bool, true, false, cond, not, ◌&&◌, T, eqb, leb, sym, refl, ap, ◌∙◌, subst, arith, w64, to_z, of_z}
use lib.Ieee.{Float, nan, inf, binary64, odd, of_fields, of_bits, to_bits, fits, nan_bits}
use lib.Ieee.Bits.{of_bits-to_bits, to_bits-lt}
use mir.Facts.{of_z-to_z}
use Rattle.reals.specs.Values.{finite_b}
use Rattle.reals.specs.model.Stored.{Sized, bits_in}
use Rattle.std.specs.Prelude.{Some, None}

-- ---- finite patterns

odd_finite : (d : ℕ) (s : Bool) (q k l : ℕ) → finite_b (odd d s q k l) ≡ true
unfolding odd
odd_finite d s zero k l = refl
odd_finite d s (suc q) k l = refl

fields_finite : (s : Bool) (x t : ℕ) → finite_b (of_fields binary64 s x t) ≡ not (eqb x 2047)
unfolding of_fields
fields_finite s zero t = odd_finite 53 s t 0 1074
fields_finite s (suc x) t = go (eqb (suc x) 2047) (eqb t 0)
  where
    go : (a b : Bool) → finite_b (cond a (cond b (inf s) nan) (odd 53 s (4503599627370496 + t) x 1074)) ≡ not a
    go true true = refl
    go true false = refl
    go false b = odd_finite 53 s (4503599627370496 + t) x 1074

pub finite_bits : (b : ℕ) → finite_b (of_bits binary64 b) ≡ not (eqb (b % 9223372036854775808 / 4503599627370496) 2047)
unfolding of_bits
finite_bits b = fields_finite (leb 9223372036854775808 b) (b % 9223372036854775808 / 4503599627370496) (b % 4503599627370496)

pub no_bits : (b : ℕ) → b % 9223372036854775808 / 4503599627370496 ≡ 2047 → None ≡ bits_in b
unfolding bits_in
no_bits b e = simp (finite_bits b, e)

pub some_bits : (b : ℕ) → eqb (b % 9223372036854775808 / 4503599627370496) 2047 ≡ false → Some (of_bits binary64 b) ≡ bits_in b
unfolding bits_in
some_bits b e = simp (finite_bits b, e)

pub number_bits : (b : ℕ) → eqb (b % 9223372036854775808 / 4503599627370496) 2047 ≡ false → T (not (nan_bits binary64 b))
unfolding nan_bits
number_bits b e = subst (λ (t : Bool). T (not (t && not (eqb (b % 4503599627370496) 0)))) (sym e) tt

-- ---- a real is read back from its bits, and from their halves

is_true : (b : Bool) → T b → b ≡ true
is_true true t = refl
is_true false t = absurd t

pub sized_true : (r : Float) → Sized r → finite_b r ≡ true
sized_true r h = is_true (finite_b r) h.finite

pub bits_back : (r : Float) → Sized r → bits_in (to_bits binary64 r) ≡ Some r
unfolding bits_in
bits_back r h = simp (of_bits-to_bits binary64 r h.held, sized_true r h)

pub halves_bits : (b : ℕ) → b / 4294967296 * 4294967296 + b % 4294967296 ≡ b
halves_bits b = omega arith

-- "1 and the real's bits, low half first"
pub real_back : (r : Float) → Sized r → bits_in (to_bits binary64 r / 4294967296 * 4294967296 + to_bits binary64 r % 4294967296) ≡ Some r
real_back r h = ap bits_in (halves_bits (to_bits binary64 r)) ∙ bits_back r h

pub long_back : (r : Float) → T (fits binary64 r) → of_z w64 (to_z w64 (to_bits binary64 r)) ≡ to_bits binary64 r
long_back r h = of_z-to_z {w = w64} (record { fits = to_bits-lt binary64 r h })
