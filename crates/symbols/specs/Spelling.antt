-- Change request 2: how symbols are written, and when symbols written one after the other read back as themselves.
use Rattle.std.specs.Prelude.{ℕ, ◌+◌, ◌≤◌, ◌<◌, ◌≡◌, Bool, true, false, cond, not, ◌&&◌, ◌||◌, List, [], ◌∷◌, ◌++◌, map, eqb, length, get_or, drop}
use Prim.Native.Char.{code}
use Rattle.symbols.specs.Text.{bytes}
use Rattle.symbols.specs.Names.{blank, letter, digit, in_name, these, reach, value_from, decimals}
use Rattle.symbols.specs.Symbols.{Delimiter, words, Sign, one, two, signs, is, packed}
use Rattle.symbols.specs.Scan.{behind, ends_remark, Found, scan}
use Rattle.symbols.specs.declared.Context.{Context}
use Rattle.symbols.specs.declared.Context.TheVariants.{Opens, Plain, Remark}
use Rattle.symbols.specs.declared.Symbol.{Symbol}
use Rattle.symbols.specs.declared.Symbol.TheVariants.{Comment, Less, Greater, Colon, Equal, Name, Number, Decimal}

-- ---- a symbol with its letters: those of a name, the digits of a number and its point, none of any other symbol

pub record Token : Type 0 where
  pub symbol : Symbol
  pub letters : List ℕ

-- all bytes are of one sort
abbrev pub All : (ℕ → Bool) → List ℕ → Type 0
All sort [] = Unit {0}
All sort (b ∷ bs) = (sort b ≡ true) × All sort bs

-- the letters that a symbol can have: "a letter, then letters and digits", at most 32; "a run of digits" of the symbol's value, at most
-- 2,147,483,647; digits, a point and digits behind it, at most 15, "leading zeros counted"; none
pub data Proper : Symbol → List ℕ → Type 0 where
  name : {b : ℕ} {bs : List ℕ} → letter b ≡ true → All in_name bs → length bs < 32 → Proper Name (b ∷ bs)
  number : {v b : ℕ} {bs : List ℕ} → digit b ≡ true → All digit bs → value_from 0 (b ∷ bs) ≡ v → v ≤ 2147483647 → Proper (Number v) (b ∷ bs)
  decimal : {w : ℕ} {l : List ℕ} (ds es : List ℕ) → l ≡ ds ++ (code "." ∷ es) → All digit ds → All digit es → 0 < length es → length (ds ++ es) ≤ 15 → packed (value_from 0 (ds ++ es)) (length es) ≡ w → Proper (Decimal w) l
  other : {s : Symbol} → is s Name ≡ false → is s (Number 0) ≡ false → is s (Decimal 0) ≡ false → Proper s []

abbrev pub AllProper : List Token → Type 0
AllProper [] = Unit {0}
AllProper (t ∷ l) = Proper t.symbol t.letters × AllProper l

-- ---- the house spelling: a word in apostrophes, a sign, a name or number without blanks

unfoldable pub word_for : List Delimiter → Symbol → List ℕ → List ℕ
word_for [] s w = w
word_for (x ∷ l) s w = cond (is x.symbol s) (code "'" ∷ (bytes x.spelling ++ (code "'" ∷ []))) (word_for l s w)

unfoldable pub sign_for : List Sign → Symbol → List ℕ
sign_for [] s = []
sign_for (one c t ∷ l) s = cond (is t s) (code c ∷ []) (sign_for l s)
sign_for (two c d t ∷ l) s = cond (is t s) (code c ∷ code d ∷ []) (sign_for l s)

unfoldable pub spell : Symbol → List ℕ → List ℕ
spell s l = cond (is s Name || is s (Number 0) || is s (Decimal 0)) l (word_for words s (sign_for signs s))

-- ---- which symbols can stand next to each other. Blanks between them tell nothing apart: "`pay rate` is `payrate`", and "Two-sign
-- symbols are joined wherever they can be"

-- a number that begins with its point; one that begins with a digit
unfoldable pub dotted : Token → Bool
dotted t = is t.symbol (Decimal 0) && eqb (get_or t.letters 0 0) (code ".")

unfoldable pub figured : Token → Bool
figured t = is t.symbol (Number 0) || (is t.symbol (Decimal 0) && not (dotted t))

-- s and t would be read as one: a name before a name or a number, a number before a number, but that neither a name nor a number with a point
-- goes on with a point; `<`, `>` or `:` before `=`
unfoldable pub joins : Symbol → Token → Bool
joins s t =
    (is s Name && (is t.symbol Name || figured t))
    || (is s (Number 0) && (figured t || dotted t))
    || (is s (Decimal 0) && figured t)
    || ((is s Less || is s Greater || is s Colon) && is t.symbol Equal)

-- in this context a symbol is kept: it opens no note, and it is no part of a remark
unfoldable pub admitted : Context → Symbol → Bool
admitted Opens s = not (is s Comment)
admitted Plain s = true
admitted Remark s = ends_remark s

pub record Fits (s : Symbol) (t : Token) : Type 0 where
  pub apart : joins s t ≡ false
  pub counts : admitted (behind s) t.symbol ≡ true

abbrev pub Linked : Symbol → List Token → Type 0
Linked s [] = Unit {0}
Linked s (t ∷ l) = Fits s t × Linked t.symbol l

-- each symbol can stand behind the one before it
abbrev pub Sound : List Token → Type 0
Sound [] = Unit {0}
Sound (t ∷ l) = Linked t.symbol l

-- ---- a text: symbols, each behind a separator of blanks, and blanks at its end

pub record Piece : Type 0 where
  pub separator : List ℕ
  pub token : Token

abbrev pub tokens_of : List Piece → List Token
tokens_of = map (λ x. x.token)

abbrev pub Blanks : List Piece → Type 0
Blanks [] = Unit {0}
Blanks (x ∷ l) = All blank x.separator × Blanks l

unfoldable pub spelling : Token → List ℕ
spelling t = spell t.symbol t.letters

unfoldable pub text : List Piece → List ℕ → List ℕ
text [] e = e
text (x ∷ l) e = x.separator ++ (spelling x.token ++ text l e)

-- its symbols with their places: the running sum of the lengths
unfoldable pub placed : ℕ → List Piece → List Found
placed p [] = []
placed p (x ∷ l) =
    let q = p + length x.separator in
    record { symbol = x.token.symbol; place = q } ∷ placed (q + length (spelling x.token)) l

-- ---- the symbols of a source with their letters

unfoldable pub with_decimals : List ℕ → List ℕ
with_decimals bs = these digit bs ++ (code "." ∷ decimals (drop (reach digit bs) bs))

unfoldable pub read_off : Symbol → List ℕ → List ℕ
read_off s bs = cond (is s Name) (these in_name bs) (cond (is s (Number 0)) (these digit bs) (cond (is s (Decimal 0)) (with_decimals bs) []))

abbrev pub token_at : List ℕ → Found → Token
token_at source f = record { symbol = f.symbol; letters = read_off f.symbol (drop f.place source) }

abbrev pub tokens : ℕ → List ℕ → List Token
tokens n source = map (token_at source) (scan n source).found

-- ---- symbols with separators: one for each, and none where none is given

unfoldable pub dress : List (List ℕ) → List Token → List Piece
dress gs [] = []
dress [] (t ∷ l) = record { separator = []; token = t } ∷ dress [] l
dress (g ∷ gs) (t ∷ l) = record { separator = g; token = t } ∷ dress gs l

abbrev pub AllBlank : List (List ℕ) → Type 0
AllBlank [] = Unit {0}
AllBlank (g ∷ gs) = All blank g × AllBlank gs
