-- How a symbol is stored: its kind and its value. This is no part of the paper; proofs/Stored has the law that reading gives back what was stored.
use Rattle.std.specs.Prelude.{ℕ, ◌/◌, ◌%◌, List, [], ◌∷◌, get_or}
use Rattle.symbols.specs.Symbols.{kind}
-- passed on: what is stored as the value
pub use Rattle.symbols.specs.Symbols.{value_of}
use Rattle.symbols.specs.declared.kinds.Stored.{Stored}
use Rattle.symbols.specs.declared.kinds.Unpacked.{Unpacked}
use Rattle.symbols.specs.declared.Symbol.{Symbol}
use Rattle.symbols.specs.declared.Symbol.TheVariants.{Begin, End, If, Then, Else, For, Do, Step, Until, While, Comment, Integer, Boolean, Procedure, Value, True, False, And, Or, Not, Impl, Equiv, Plus, Minus, Times, Divide, Less, LessEqual, Equal, GreaterEqual, Greater, NotEqual, Comma, Colon, Becomes, Semicolon, Open, Close, Name, Number, Real, Slash, Decimal}

abbrev pub stored_of : Symbol → Stored
stored_of s = record { kind = kind s; value = value_of s }

-- the symbols in the order of their kinds
abbrev pub ordered : ℕ → List Symbol
ordered v =
    Begin ∷
    End ∷
    If ∷
    Then ∷
    Else ∷
    For ∷
    Do ∷
    Step ∷
    Until ∷
    While ∷
    Comment ∷
    Integer ∷
    Boolean ∷
    Procedure ∷
    Value ∷
    True ∷
    False ∷
    And ∷
    Or ∷
    Not ∷
    Impl ∷
    Equiv ∷
    Plus ∷
    Minus ∷
    Times ∷
    Divide ∷
    Less ∷
    LessEqual ∷
    Equal ∷
    GreaterEqual ∷
    Greater ∷
    NotEqual ∷
    Comma ∷
    Colon ∷
    Becomes ∷
    Semicolon ∷
    Open ∷
    Close ∷
    Name ∷
    Number v ∷
    Real ∷
    Slash ∷
    Decimal v ∷
    []

-- the symbol of a kind and a value. A number that is no kind gives `:`, which no program has
unfoldable pub symbol_of : ℕ → ℕ → Symbol
symbol_of k v = get_or (ordered v) k Colon

-- the digits of a number with a point, and how many of them stand behind it (`unpack_packed` in proofs/Stored)
unfoldable pub unpacked : ℕ → Unpacked
unpacked w = record { digits = w / 16; behind = w % 16 }
