-- What is stored of a symbol gives the symbol back, and a number with a point has its digits back.
use Prim.Native.Nat.{ℕ, zero, suc, ◌+◌, ◌*◌, ◌/◌, ◌%◌, ◌≤◌, ◌<◌}
use mathlib.Core.Path.{◌≡◌, refl, sym, ap, ◌∙◌}
use native.Mathlib.Omega.{arith}
use lib.ListN.{get_or-map}
use Rattle.symbols.specs.Symbols.{kind, packed, value_of}
use Rattle.symbols.specs.model.Kinds.{symbol_of, ordered, unpacked}
use Rattle.symbols.specs.declared.Symbol.{Symbol}
use Rattle.symbols.specs.declared.Symbol.TheVariants.{Begin, End, If, Then, Else, For, Do, Step, Until, While, Comment, Integer, Boolean, Procedure, Value, True, False, And, Or, Not, Impl, Equiv, Plus, Minus, Times, Divide, Less, LessEqual, Equal, GreaterEqual, Greater, NotEqual, Comma, Colon, Becomes, Semicolon, Open, Close, Name, Number, Real, Slash, Decimal}

pub given_back : (s : Symbol) → symbol_of (kind s) (value_of s) ≡ s
unfolding symbol_of
given_back Begin = refl
given_back End = refl
given_back If = refl
given_back Then = refl
given_back Else = refl
given_back For = refl
given_back Do = refl
given_back Step = refl
given_back Until = refl
given_back While = refl
given_back Comment = refl
given_back Integer = refl
given_back Boolean = refl
given_back Procedure = refl
given_back Value = refl
given_back True = refl
given_back False = refl
given_back And = refl
given_back Or = refl
given_back Not = refl
given_back Impl = refl
given_back Equiv = refl
given_back Plus = refl
given_back Minus = refl
given_back Times = refl
given_back Divide = refl
given_back Less = refl
given_back LessEqual = refl
given_back Equal = refl
given_back GreaterEqual = refl
given_back Greater = refl
given_back NotEqual = refl
given_back Comma = refl
given_back Colon = refl
given_back Becomes = refl
given_back Semicolon = refl
given_back Open = refl
given_back Close = refl
given_back Name = refl
given_back (Number v) = refl
given_back Real = refl
given_back Slash = refl
given_back (Decimal w) = refl

-- of which kind the stored symbol is does not hang on its value
any_value : (k v w : ℕ) → kind (symbol_of k v) ≡ kind (symbol_of k w)
unfolding symbol_of
any_value k v w = sym (get_or-map kind (ordered v) k Colon) ∙ get_or-map kind (ordered w) k Colon

-- a stored kind gives itself
pub same_kind : (s : Symbol) → kind (symbol_of (kind s) 0) ≡ kind s
same_kind s = any_value (kind s) 0 (value_of s) ∙ ap kind (given_back s)

-- a number with a point has at most 15 digits behind it, and reads back
pub unpack_packed : (n k : ℕ) → k < 16 → unpacked (packed n k) ≡ record { digits = n; behind = k }
unfolding unpacked
unpack_packed n k h =
    let d : (16 * n + k) / 16 ≡ n = omega arith in
    let m : (16 * n + k) % 16 ≡ k = omega arith in
    rw (d, m)

-- a number that is none of those below n is at least n
abbrev NoneOf : ℕ → ℕ → Type 0
NoneOf zero k = Unit {0}
NoneOf (suc n) k = NoneOf n k × (k ≡ n → ⊥)

pub above : (n k : ℕ) → NoneOf n k → n ≤ k
above zero k h = omega arith
above (suc n) k h = let l = above n k h.0 in let m = h.1 in omega arith
