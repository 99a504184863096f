-- Logical values, whole numbers of 32 bits and reals of 64, and the operators on them with their faults. The source rules and the machine share
-- them. A real is the kit's own (`Float`): a sign, a whole number and a power of 2, an infinity, or no number. Assumes nothing: these are definitions.
use Rattle.std.specs.Prelude.{ℕ, zero, suc, ◌*◌, ◌/◌, ◌%◌, ◌^◌, Bool, true, false, cond, not, ◌&&◌, ◌||◌, List, [], ◌∷◌, ℤ, pos, negsuc, ◌+ℤ◌, ◌-ℤ◌, ◌*ℤ◌, neg_ℤ, ◌==◌, int_div, int_le, int_lt, nat_lt, to_bits, unsigned_abs, Float}
use Rattle.std.specs.Bool.{beq}
use Rattle.std.specs.Int.Signed.{mag}
use Rattle.std.specs.Float.{nan, inf, fin, binary64}
use Rattle.std.specs.Float.Ieee.{up, down, round, add, sub, mul, div, eq, lt, le, neg, of_int}
use Rattle.std.specs.Int.{w32}
use Rattle.std.proofs.Common.{to_z}
use Rattle.answers.specs.Numbers.{range, zero_divisor}
use Rattle.answers.specs.Answers.{answer}
use Rattle.reals.specs.declared.Form.{Form}
use Rattle.reals.specs.declared.Form.TheVariants.{Truths, Wholes, Reals}
use Rattle.reals.specs.declared.Value.{Value}
use Rattle.reals.specs.declared.Value.TheVariants.{Truth, Whole, Real}
use Rattle.reals.specs.declared.Outcome.{Outcome}
use Rattle.reals.specs.declared.Outcome.TheVariants.{Is, Fault, Stray}
use Rattle.reals.specs.declared.Both.{Both}
use Rattle.reals.specs.declared.Both.TheVariants.{Truths as Truths2, Wholes as Wholes2, Reals as Reals2, Neither}
use Rattle.reals.specs.declared.Unary.{Unary}
use Rattle.reals.specs.declared.Unary.TheVariants.{Minus, Negation, Absolute}
use Rattle.reals.specs.declared.Binary.{Binary}
use Rattle.reals.specs.declared.Binary.TheVariants.{Plus, Less, Times, Over, Divide, Below, AtMost, Equal, AtLeast, Above, Unequal, And, Or, Impl, Equiv}

-- ---- types: "Boolean, whole number or 64-bit real"

abbrev pub form_of : Value → Form
form_of (Truth b) = Truths
form_of (Whole z) = Wholes
form_of (Real r) = Reals

-- ---- numbers, and their faults

-- 21: "result outside −2,147,483,648 to 2,147,483,647". `mag x` is x, or −(x + 1) where x is below 0
unfoldable pub whole : ℤ → Outcome
whole x = cond (nat_lt (mag x) 2147483648) (Is (Whole x)) (Fault (answer range))

abbrev pub finite_b : Float → Bool
finite_b nan = false
finite_b (inf s) = false
finite_b (fin s m e) = true

-- 21: "a real result that is no finite number"
unfoldable pub real : Float → Outcome
real x = cond (finite_b x) (Is (Real x)) (Fault (answer range))

abbrev pub is_zero : ℤ → Bool
is_zero (pos n) = n == 0
is_zero (negsuc n) = false

-- the same number
abbrev pub same : ℤ → ℤ → Bool
same (pos m) (pos n) = m == n
same (pos m) (negsuc n) = false
same (negsuc m) (pos n) = false
same (negsuc m) (negsuc n) = m == n

abbrev pub nought : Float
nought = fin false 0 (pos 0)

abbrev pub half : Float
half = fin false 1 (negsuc 0)

-- ---- conversions

-- −n / d, downward
abbrev pub downward : ℕ → ℕ → ℤ
downward n d = cond (n % d == 0) (neg_ℤ (pos (n / d))) (negsuc (n / d))

-- the greatest whole number that is not above x: a finite x is m · up e / down e, or below 0
unfoldable pub entier : Float → ℤ
entier nan = pos 0
entier (inf s) = pos 0
entier (fin false m e) = pos (m * up e / down e)
entier (fin true m e) = downward (m * up e) (down e)

-- "with answer 21 outside range"
unfoldable pub whole_of : Float → Outcome
whole_of nan = Fault (answer range)
whole_of (inf s) = Fault (answer range)
whole_of (fin s m e) = whole (entier (fin s m e))

-- a value as one of a type: "a whole number becomes a real exactly"; a real becomes "entier(E + 0.5), the sum rounded once"
unfoldable pub convert : Form → Value → Outcome
convert Truths (Truth b) = Is (Truth b)
convert Truths (Whole z) = Stray
convert Truths (Real r) = Stray
convert Wholes (Truth b) = Stray
convert Wholes (Whole z) = Is (Whole z)
convert Wholes (Real r) = whole_of (add binary64 r half)
convert Reals (Truth b) = Stray
convert Reals (Whole z) = Is (Real (of_int binary64 z))
convert Reals (Real r) = Is (Real r)

-- ---- decimals

-- "rounds once, after all digits, by one division": the real nearest to n / 10^k, n being all the digits and k how many stand behind the point
unfoldable pub decimal : ℕ → ℕ → Float
decimal n k = round binary64 false n (10 ^ k)

-- "The decimal reading takes at most 15 digits": 0 stands for what has more, which no program has
unfoldable pub reading : ℕ → ℕ → Float
reading n k = cond (nat_lt n 1000000000000000 && nat_lt k 16) (decimal n k) nought

-- ---- operators

-- "a value of another type than the instruction takes is 29"; −x of a real turns its sign
unfoldable pub apply1 : Unary → Value → Outcome
apply1 Minus (Truth b) = Stray
apply1 Minus (Whole x) = whole (neg_ℤ x)
apply1 Minus (Real r) = Is (Real (neg r))
apply1 Negation (Truth b) = Is (Truth (not b))
apply1 Negation (Whole x) = Stray
apply1 Negation (Real r) = Stray
apply1 Absolute (Truth b) = Stray
apply1 Absolute (Whole x) = whole (pos (unsigned_abs x))
apply1 Absolute (Real r) = Stray

-- two values of one type, a whole number beside a real having become one
unfoldable pub both_of : Value → Value → Both
both_of (Truth x) (Truth y) = Truths2 x y
both_of (Truth x) (Whole y) = Neither
both_of (Truth x) (Real y) = Neither
both_of (Whole x) (Truth y) = Neither
both_of (Whole x) (Whole y) = Wholes2 x y
both_of (Whole x) (Real y) = Reals2 (of_int binary64 x) y
both_of (Real x) (Truth y) = Neither
both_of (Real x) (Whole y) = Reals2 x (of_int binary64 y)
both_of (Real x) (Real y) = Reals2 x y

unfoldable pub on_numbers : (ℤ → ℤ → Outcome) → (Float → Float → Outcome) → Both → Outcome
on_numbers f g (Truths2 x y) = Stray
on_numbers f g (Wholes2 x y) = f x y
on_numbers f g (Reals2 x y) = g x y
on_numbers f g Neither = Stray

unfoldable pub on_truths : (Bool → Bool → Bool) → Both → Outcome
on_truths f (Truths2 x y) = Is (Truth (f x y))
on_truths f (Wholes2 x y) = Stray
on_truths f (Reals2 x y) = Stray
on_truths f Neither = Stray

abbrev pub related : (ℤ → ℤ → Bool) → (Float → Float → Bool) → Both → Outcome
related f g b = on_numbers (λ x y. Is (Truth (f x y))) (λ x y. Is (Truth (g x y))) b

-- 22: "divisor zero". "`%` cuts toward zero", as `quot_z` does
unfoldable pub cut : ℤ → ℤ → Outcome
cut x y = cond (is_zero y) (Fault (answer zero_divisor)) (whole (int_div x y))

-- "A zero real divisor is 22", 0.0 and −0.0
unfoldable pub quotient : Float → Float → Outcome
quotient x y = cond (eq y nought) (Fault (answer zero_divisor)) (real (div binary64 x y))

-- "Sums, differences, products and quotients of reals are the single rounded result, to nearest and a tie to even"
unfoldable pub apply2 : Binary → Value → Value → Outcome
apply2 Plus x y = on_numbers (λ x y. whole (x +ℤ y)) (λ x y. real (add binary64 x y)) (both_of x y)
apply2 Less x y = on_numbers (λ x y. whole (x -ℤ y)) (λ x y. real (sub binary64 x y)) (both_of x y)
apply2 Times x y = on_numbers (λ x y. whole (x *ℤ y)) (λ x y. real (mul binary64 x y)) (both_of x y)
apply2 Over x y = on_numbers (λ x y. cut x y) (λ x y. Stray) (both_of x y)
apply2 Divide x y = on_numbers (λ x y. quotient (of_int binary64 x) (of_int binary64 y)) (λ x y. quotient x y) (both_of x y)
apply2 Below x y = related (λ x y. int_lt x y) (λ x y. lt x y) (both_of x y)
apply2 AtMost x y = related (λ x y. int_le x y) (λ x y. le x y) (both_of x y)
apply2 Equal x y = related (λ x y. same x y) (λ x y. eq x y) (both_of x y)
apply2 AtLeast x y = related (λ x y. int_le y x) (λ x y. le y x) (both_of x y)
apply2 Above x y = related (λ x y. int_lt y x) (λ x y. lt y x) (both_of x y)
apply2 Unequal x y = related (λ x y. not (same x y)) (λ x y. not (eq x y)) (both_of x y)
apply2 And x y = on_truths (λ x y. x && y) (both_of x y)
apply2 Or x y = on_truths (λ x y. x || y) (both_of x y)
apply2 Impl x y = on_truths (λ x y. not x || y) (both_of x y)
apply2 Equiv x y = on_truths (λ x y. beq x y) (both_of x y)

-- ---- step elements

abbrev pub sign : ℤ → ℤ
sign (pos zero) = pos 0
sign (pos (suc n)) = pos 1
sign (negsuc n) = negsuc 0

-- "The loop is left when (variable − bound) × sign(step) > 0, in exact whole numbers": v the variable, x the step, y the bound
unfoldable pub past : ℤ → ℤ → ℤ → Bool
past v x y = int_lt (pos 0) ((v -ℤ y) *ℤ sign x)

-- "A step element with a real is left by comparing variable and bound, no difference being taken"
unfoldable pub past_r : Float → Float → Float → Bool
past_r v x y = cond (lt nought x) (lt y v) (cond (lt x nought) (lt v y) false)

-- whether it is left, variable and bound being of one type; x: the step
unfoldable pub past_by : Both → Value → Outcome
past_by (Truths2 v y) x = Stray
past_by (Wholes2 v y) (Truth b) = Stray
past_by (Wholes2 v y) (Whole x) = Is (Truth (past v x y))
past_by (Wholes2 v y) (Real x) = Is (Truth (past_r (of_int binary64 v) x (of_int binary64 y)))
past_by (Reals2 v y) (Truth b) = Stray
past_by (Reals2 v y) (Whole x) = Is (Truth (past_r v (of_int binary64 x) y))
past_by (Reals2 v y) (Real x) = Is (Truth (past_r v x y))
past_by Neither x = Stray

abbrev pub leaves : Value → Value → Value → Outcome
leaves v x y = past_by (both_of v y) x

-- ---- output entries: "either 0, the whole number and 0, or 1 and the real's bits, low half first"

abbrev pub entry_w : ℤ → List ℤ
entry_w z = pos 0 ∷ z ∷ pos 0 ∷ []

abbrev pub entry_b : ℕ → List ℤ
entry_b b = pos 1 ∷ to_z w32 (b % 4294967296) ∷ to_z w32 (b / 4294967296) ∷ []

unfoldable pub entry_r : Float → List ℤ
entry_r r = entry_b (to_bits binary64 r)
