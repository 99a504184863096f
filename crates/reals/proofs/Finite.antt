-- What the library has for finite numbers and for what is no number. And the two tests by comparisons alone: `x - x == 0.0` is that of a finite number,
-- since a sum that cancels is 0 and an infinity less itself is no number; `x == x` is that of a number.
use Rattle.std.proofs.Common.{◌≡◌, ℕ, ◌-◌, ◌*◌, ◌<◌, Bool, true, false, not, ltb, pos, sym, refl, ◌∙◌, true≢false, le_refl, mul-pos, zero-mul, arith, le-ltb, eq-eqb}
use mathlib.Core.Bool.{beq, false≢true}
use Rattle.std.specs.Float.{float_is_finite}
use lib.Ieee.{Float, nan, inf, fin, binary64, up, down, round, sum, add, sub, neg, eq, of_bits, to_bits, is_nan}
use lib.Ieee.Fits.{down_pos}
use lib.Ieee.Scale.{round_same}
use Rattle.reals.specs.Values.{finite_b}

pub finite_is : (x : Float) → float_is_finite x ≡ finite_b x
unfolding float_is_finite
finite_is nan = refl
finite_is (inf s) = refl
finite_is (fin s m e) = refl

-- the definition's pattern for what is no number
pub nan_pattern : (x : Float) → is_nan x ≡ true → 9221120237041090560 ≡ to_bits binary64 x
unfolding is_nan to_bits
nan_pattern nan e = refl
nan_pattern (inf s) e = absurd (false≢true e)
nan_pattern (fin s m d) e = absurd (false≢true e)

-- ---- the test of a finite number by comparisons alone

none : (c : ℕ) → 0 < c → round binary64 false 0 c ≡ fin false 0 (pos 0)
unfolding round
none c h = round_same binary64 false 0 c 0 1 h (omega arith) (zero-mul 1 ∙ sym (zero-mul c))

cancels : (s : Bool) (a c : ℕ) → 0 < c → sum binary64 s a (not s) a c ≡ fin false 0 (pos 0)
unfolding sum
cancels true a c h =
    let l : ltb a a ≡ false = le-ltb a a (le_refl a) in
    let z : a - a ≡ 0 = omega arith in
    simp (l, z) (none c h)
cancels false a c h =
    let l : ltb a a ≡ false = le-ltb a a (le_refl a) in
    let z : a - a ≡ 0 = omega arith in
    simp (l, z) (none c h)

pub finite_test : (x : Float) → eq (sub binary64 x x) (of_bits binary64 0) ≡ finite_b x
unfolding sub add neg eq of_bits
finite_test nan = refl
finite_test (inf true) = refl
finite_test (inf false) = refl
finite_test (fin s m e) =
    simp (cancels s (m * up e * down e) (down e * down e) (mul-pos (down_pos e) (down_pos e))) refl

-- ---- what is no number

alike : (s : Bool) → beq s s ≡ true
alike true = refl
alike false = refl

pub number_test : (x : Float) → eq x x ≡ not (is_nan x)
unfolding eq is_nan
number_test nan = refl
number_test (inf s) = alike s
number_test (fin s m e) = simp (eq-eqb (m * up e * down e) (m * up e * down e) refl, alike s)

-- .. and its pattern by it
pub no_number : (x : Float) → eq x x ≡ false → 9221120237041090560 ≡ to_bits binary64 x
unfolding is_nan to_bits
no_number x e = go x (sym (number_test x) ∙ e)
  where
    go : (x : Float) → not (is_nan x) ≡ false → 9221120237041090560 ≡ to_bits binary64 x
    go nan e = refl
    go (inf s) e = absurd (true≢false e)
    go (fin s m d) e = absurd (true≢false e)
