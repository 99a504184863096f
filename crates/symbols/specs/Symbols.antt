-- Paper 01, "Bytes to symbols": what a symbol is, and how each is written.
use Rattle.std.specs.Prelude.{ℕ, ◌+◌, ◌*◌, Bool, List, [], ◌∷◌, eqb}
use Prim.Native.Char.{Char}
use Prim.Native.String.{String}
use Rattle.symbols.specs.declared.Symbol.{Symbol}
use Rattle.symbols.specs.declared.Symbol.TheVariants.{Begin, End, If, Then, Else, For, Do, Step, Until, While, Comment, Integer, Boolean, Procedure, Value, True, False, And, Or, Not, Impl, Equiv, Plus, Minus, Times, Divide, Less, LessEqual, Equal, GreaterEqual, Greater, NotEqual, Comma, Colon, Becomes, Semicolon, Open, Close, Name, Number, Real, Slash, Decimal}

-- ---- "Delimiter words stand between apostrophes", each in its house spelling

pub record Delimiter : Type 0 where
  pub spelling : String
  pub symbol : Symbol

abbrev word : String → Symbol → Delimiter
word w s = record { spelling = w; symbol = s }

abbrev pub words : List Delimiter
words =
    word "begin" Begin ∷
    word "end" End ∷
    word "if" If ∷
    word "then" Then ∷
    word "else" Else ∷
    word "for" For ∷
    word "do" Do ∷
    word "step" Step ∷
    word "until" Until ∷
    word "while" While ∷
    word "comment" Comment ∷
    word "integer" Integer ∷
    word "Boolean" Boolean ∷
    word "procedure" Procedure ∷
    word "value" Value ∷
    word "true" True ∷
    word "false" False ∷
    word "and" And ∷
    word "or" Or ∷
    word "not" Not ∷
    word "impl" Impl ∷
    word "equiv" Equiv ∷
    word "real" Real ∷
    []

-- ---- "Signs: `+ - * % < <= = >= > # , : := ; ( )`", and with request 6 `/`. One of two bytes stands before those that begin as it does:
-- "Two-sign symbols are joined wherever they can be."

pub data Sign : Type 0 where
  one : Char → Symbol → Sign
  two : Char → Char → Symbol → Sign

abbrev pub signs : List Sign
signs =
    two "<" "=" LessEqual ∷
    two ">" "=" GreaterEqual ∷
    two ":" "=" Becomes ∷
    one "+" Plus ∷
    one "-" Minus ∷
    one "*" Times ∷
    one "%" Divide ∷
    one "<" Less ∷
    one "=" Equal ∷
    one ">" Greater ∷
    one "#" NotEqual ∷
    one "," Comma ∷
    one ":" Colon ∷
    one ";" Semicolon ∷
    one "(" Open ∷
    one ")" Close ∷
    one "/" Slash ∷
    []

-- ---- kinds: a number for each symbol, which tells symbols apart but for a number's value; and that value, which no other symbol has. A number
-- with a point has a word

abbrev numbered : Symbol → ℕ × ℕ
numbered Begin = (0, 0)
numbered End = (1, 0)
numbered If = (2, 0)
numbered Then = (3, 0)
numbered Else = (4, 0)
numbered For = (5, 0)
numbered Do = (6, 0)
numbered Step = (7, 0)
numbered Until = (8, 0)
numbered While = (9, 0)
numbered Comment = (10, 0)
numbered Integer = (11, 0)
numbered Boolean = (12, 0)
numbered Procedure = (13, 0)
numbered Value = (14, 0)
numbered True = (15, 0)
numbered False = (16, 0)
numbered And = (17, 0)
numbered Or = (18, 0)
numbered Not = (19, 0)
numbered Impl = (20, 0)
numbered Equiv = (21, 0)
numbered Plus = (22, 0)
numbered Minus = (23, 0)
numbered Times = (24, 0)
numbered Divide = (25, 0)
numbered Less = (26, 0)
numbered LessEqual = (27, 0)
numbered Equal = (28, 0)
numbered GreaterEqual = (29, 0)
numbered Greater = (30, 0)
numbered NotEqual = (31, 0)
numbered Comma = (32, 0)
numbered Colon = (33, 0)
numbered Becomes = (34, 0)
numbered Semicolon = (35, 0)
numbered Open = (36, 0)
numbered Close = (37, 0)
numbered Name = (38, 0)
numbered (Number v) = (39, v)
numbered Real = (40, 0)
numbered Slash = (41, 0)
numbered (Decimal w) = (42, w)

abbrev pub kind : Symbol → ℕ
kind s = (numbered s).0

abbrev pub value_of : Symbol → ℕ
value_of s = (numbered s).1

-- the same symbol, a number's value aside
abbrev pub is : Symbol → Symbol → Bool
is a b = eqb (kind a) (kind b)

-- a number with a point (request 6): all its digits as one whole number n, and k, how many of them stand behind the point, as one word
abbrev pub packed : ℕ → ℕ → ℕ
packed n k = 16 * n + k
