-- Worked cases of the definitions, each computed.
use Rattle.std.proofs.Common.{◌≡◌, ℕ, zero, suc, true, false, [], ◌∷◌, pos, negsuc, refl}
use lib.Ieee.{Float, binary64, add, mul, div, neg, lt, eq, round, of_int, of_bits, to_bits}
use Rattle.answers.specs.Numbers.{range, zero_divisor}
use Rattle.answers.specs.Answers.{answer}
use Rattle.reals.specs.Values.{whole, real, nought, entier, whole_of, convert, decimal, both_of, on_numbers, quotient, apply1, apply2, past_r, past_by, leaves, entry_r}
use Rattle.reals.specs.declared.Form.TheVariants.{Wholes}
use Rattle.reals.specs.declared.Value.{Value}
use Rattle.reals.specs.declared.Value.TheVariants.{Truth, Whole, Real}
use Rattle.reals.specs.declared.Outcome.{Outcome}
use Rattle.reals.specs.declared.Outcome.TheVariants.{Is, Fault, Stray}
use Rattle.reals.specs.declared.Unary.TheVariants.{Minus}
use Rattle.reals.specs.declared.Binary.TheVariants.{Plus, Times, Over, Divide, Below, Equal}

-- the real of 64 bits
abbrev by : ℕ → Value
by b = Real (of_bits binary64 b)

-- ---- stored in an integer

abbrev stored : ℕ → Outcome
stored b = convert Wholes (by b)

-- 2.5 is 3, and −2.5 is −2
up_half : stored 0x4004_0000_0000_0000 ≡ Is (Whole (pos 3))
unfolding convert whole_of whole entier add of_bits
up_half = refl

down_half : stored 0xc004_0000_0000_0000 ≡ Is (Whole (negsuc 1))
unfolding convert whole_of whole entier add of_bits
down_half = refl

-- 0.49999999999999994 is 1: the sum is rounded, to 1.0
just_below : stored 0x3fdf_ffff_ffff_ffff ≡ Is (Whole (pos 1))
unfolding convert whole_of whole entier add of_bits
just_below = refl

-- 2147483647.25 is in, 2147483647.5 is out; −2147483648.5 is in, −2147483648.75 is out
high_in : stored 0x41df_ffff_ffd0_0000 ≡ Is (Whole (pos 2147483647))
unfolding convert whole_of whole entier add of_bits
high_in = refl

high_out : stored 0x41df_ffff_ffe0_0000 ≡ Fault (answer range)
unfolding convert whole_of whole entier add of_bits
high_out = refl

low_in : stored 0xc1e0_0000_0010_0000 ≡ Is (Whole (negsuc 2147483647))
unfolding convert whole_of whole entier add of_bits
low_in = refl

low_out : stored 0xc1e0_0000_0018_0000 ≡ Fault (answer range)
unfolding convert whole_of whole entier add of_bits
low_out = refl

-- ---- decimals as bits

-- 0.1, 3.14159265358979 and 0.00000000000001
tenth : to_bits binary64 (decimal 1 1) ≡ 0x3fb9_9999_9999_999a
unfolding decimal round to_bits
tenth = refl

pi : to_bits binary64 (decimal 314159265358979 14) ≡ 0x4009_21fb_5444_2d11
unfolding decimal round to_bits
pi = refl

least : to_bits binary64 (decimal 1 14) ≡ 0x3d06_849b_86a1_2b9b
unfolding decimal round to_bits
least = refl

-- ---- operators

-- 1 / 3
third : apply2 Divide (Whole (pos 1)) (Whole (pos 3)) ≡ Is (by 0x3fd5_5555_5555_5555)
unfolding apply2 on_numbers both_of quotient real div of_int eq of_bits
third = refl

-- 1 / 0, and 1 / −0.0
by_zero : apply2 Divide (Whole (pos 1)) (Whole (pos 0)) ≡ Fault (answer zero_divisor)
unfolding apply2 on_numbers both_of quotient real div of_int eq
by_zero = refl

by_minus_zero : apply2 Divide (Whole (pos 1)) (by 0x8000_0000_0000_0000) ≡ Fault (answer zero_divisor)
unfolding apply2 on_numbers both_of quotient real div of_int eq of_bits
by_minus_zero = refl

-- 1 + 2.25 is 3.25
mixed : apply2 Plus (Whole (pos 1)) (by 0x4002_0000_0000_0000) ≡ Is (by 0x400a_0000_0000_0000)
unfolding apply2 on_numbers both_of real add of_int of_bits
mixed = refl

-- past the largest
large : apply2 Times (by 0x7fe0_0000_0000_0000) (Whole (pos 2)) ≡ Fault (answer range)
unfolding apply2 on_numbers both_of real mul of_int of_bits
large = refl

-- "%" takes whole numbers alone, a comparison no logical value
over_real : apply2 Over (by 0x4002_0000_0000_0000) (Whole (pos 2)) ≡ Stray
unfolding apply2 on_numbers both_of of_bits of_int
over_real = refl

below_truth : apply2 Below (Truth true) (Truth false) ≡ Stray
unfolding apply2 on_numbers both_of
below_truth = refl

-- −x of 0.0 is −0.0, which has bits of its own and is equal to 0
minus_zero : apply1 Minus (Real nought) ≡ Is (by 0x8000_0000_0000_0000)
unfolding apply1 neg of_bits
minus_zero = refl

minus_zero_bits : entry_r (neg nought) ≡ pos 1 ∷ pos 0 ∷ negsuc 2147483647 ∷ []
unfolding entry_r neg to_bits
minus_zero_bits = refl

zeros_equal : apply2 Equal (by 0x8000_0000_0000_0000) (Whole (pos 0)) ≡ Is (Truth true)
unfolding apply2 on_numbers both_of eq of_int of_bits
zeros_equal = refl

-- the sum of 1 / k for k = 1 .. 100, each term and each sum rounded
harmonic : ℕ → Float
unfolding add div of_int
harmonic zero = nought
harmonic (suc k) = add binary64 (harmonic k) (div binary64 (of_int binary64 (pos 1)) (of_int binary64 (pos (suc k))))

hundred : to_bits binary64 (harmonic 100) ≡ 0x4014_bfdf_e459_1243
unfolding harmonic to_bits
hundred = refl

-- ---- step elements

-- 1.0 by −0.0 up to 0 is never left; 0.25 by 0.25 up to 0 is, and so is −1 by −1 down to −0.5
by_no_step : leaves (by 0x3ff0_0000_0000_0000) (by 0x8000_0000_0000_0000) (Whole (pos 0)) ≡ Is (Truth false)
unfolding past_by both_of past_r lt of_int of_bits
by_no_step = refl

up_step : leaves (by 0x3fd0_0000_0000_0000) (by 0x3fd0_0000_0000_0000) (Whole (pos 0)) ≡ Is (Truth true)
unfolding past_by both_of past_r lt of_int of_bits
up_step = refl

down_step : leaves (Whole (negsuc 0)) (Whole (negsuc 0)) (by 0xbfe0_0000_0000_0000) ≡ Is (Truth true)
unfolding past_by both_of past_r lt of_int of_bits
down_step = refl
