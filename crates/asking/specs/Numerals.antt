-- Numbers as people type them: digits, and for a whole number a sign before them. Digits and their value are those of a source's numbers.
use Rattle.std.specs.Prelude.{ℕ, ◌^◌, Bool, true, cond, ◌&&◌, List, [], ◌∷◌, length, eqb, ltb, ℤ, pos, negsuc, neg_ℤ}
use Prim.Native.Char.{code}
use Rattle.std.specs.Prelude.{Option, None, Some}
use Rattle.std.specs.Int.Signed.{le_z}
use Rattle.symbols.specs.Names.{digit, value_from}

-- all the bytes are digits
unfoldable pub digits : List ℕ → Bool
digits [] = true
digits (b ∷ bs) = digit b && digits bs

-- at least one byte, and all are digits
unfoldable pub spelled : List ℕ → Bool
spelled bs = ltb 0 (length bs) && digits bs

-- the number that digits spell, however large it is
unfoldable pub number_of : List ℕ → Option ℕ
number_of bs = cond (spelled bs) (Some (value_from 0 bs)) None

-- the number that digits spell, where 64 bits hold it
unfoldable pub natural_of : List ℕ → Option ℕ
natural_of bs = cond (spelled bs && ltb (value_from 0 bs) (2 ^ 64)) (Some (value_from 0 bs)) None

-- a number from 0 on as a whole number, and its negative
unfoldable pub counted : Option ℕ → Option ℤ
counted None = None
counted (Some n) = Some (pos n)

unfoldable pub negated : Option ℕ → Option ℤ
negated None = None
negated (Some n) = Some (neg_ℤ (pos n))

-- a whole number from −2,147,483,648, which is `negsuc` of one less, to 2,147,483,647; nothing where it is outside
unfoldable pub within : Option ℤ → Option ℤ
within None = None
within (Some z) = cond (le_z (negsuc 2147483647) z && le_z z (pos 2147483647)) (Some z) None

-- digits, with `-` or `+` before them or neither
unfoldable pub integer_of : List ℕ → Option ℤ
integer_of [] = None
integer_of (b ∷ bs) =
    cond (eqb b (code "-")) (negated (number_of bs))
    (cond (eqb b (code "+")) (counted (number_of bs))
    (counted (number_of (b ∷ bs))))

-- the whole number that a text spells
unfoldable pub whole_of : List ℕ → Option ℤ
whole_of bs = within (integer_of bs)
