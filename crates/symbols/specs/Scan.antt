-- Paper 01, "Bytes to symbols": from bytes to symbols with their places, or 3 or 4 with a place.
use Rattle.std.specs.Prelude.{Option, Some, None, ℕ, zero, suc, pred, ◌+◌, Bool, cond, ◌&&◌, ◌||◌, List, [], ◌∷◌, ◌++◌, map, length, get_or, drop, eqb, ltb}
use Prim.Native.Char.{code}
use Rattle.std.proofs.Math.Option.{Option as Optional, none, some}
use Rattle.answers.specs.Numbers.{no_symbol, too_large}
use Rattle.answers.specs.Answers.{answer, refusal}
use Rattle.answers.specs.declared.Answer.{Answer}
use Rattle.answers.specs.declared.Refusal.{Refusal}
use Rattle.symbols.specs.Text.{bytes}
use Rattle.symbols.specs.Names.{blank, letter, digit, in_name, these, reach, letters, value_from, value, decimals, same_name}
use Rattle.symbols.specs.Symbols.{Delimiter, words, Sign, one, two, signs, kind, is, packed, value_of}
use Rattle.symbols.specs.declared.Context.{Context}
use Rattle.symbols.specs.declared.Context.TheVariants.{Opens, Plain, Remark}
use Rattle.symbols.specs.declared.Lexeme.{Lexeme}
use Rattle.symbols.specs.declared.Lexeme.TheVariants.{Is, Large, Nothing}
use Rattle.symbols.specs.declared.Turn.{Turn}
use Rattle.symbols.specs.declared.Turn.TheVariants.{Pass, Keep, Refuse}
use Rattle.symbols.specs.declared.Symbol.{Symbol}
use Rattle.symbols.specs.declared.Symbol.TheVariants.{Begin, End, Else, Comment, Semicolon, Name, Number, Decimal}

-- ---- what begins at a byte

-- a symbol; a name or number over its limit; or no symbol. The number says how many bytes belong to it behind its first
-- (the enum `Lexeme`: Is, Large, Nothing)

-- the bytes before the next q, and whether there is a q
unfoldable pub before : ℕ → List ℕ → List ℕ
before q [] = []
before q (b ∷ bs) = cond (eqb b q) [] (b ∷ before q bs)

unfoldable pub closed : ℕ → List ℕ → Bool
closed q bs = ltb (length (before q bs)) (length bs)

-- "Delimiter words stand between apostrophes"; "A blank inside the apostrophes spoils the word."; request 8: "Delimiter words then match in any
-- case too."
unfoldable pub spelled : List Delimiter → List ℕ → Option Symbol
spelled [] w = None
spelled (x ∷ l) w = cond (same_name w (bytes x.spelling)) (Some x.symbol) (spelled l w)

unfoldable pub named : Option Symbol → ℕ → Lexeme
named None k = Nothing
named (Some s) k = Is s k

-- behind an apostrophe
unfoldable pub word : List ℕ → Lexeme
word bs =
    let w = before (code "'") bs in
    cond (closed (code "'") bs) (named (spelled words w) (length w + 1)) Nothing

-- "Two-sign symbols are joined wherever they can be": how many blanks come first, and whether c stands behind them
unfoldable pub gap : List ℕ → ℕ
gap [] = 0
gap (b ∷ bs) = cond (blank b) (suc (gap bs)) 0

unfoldable pub followed : ℕ → List ℕ → Bool
followed c bs = eqb (get_or bs (gap bs) 0) c

-- the first of these signs that the byte b and those behind it spell
unfoldable pub sign : List Sign → ℕ → List ℕ → Lexeme
sign [] b bs = Nothing
sign (one c s ∷ l) b bs = cond (eqb b (code c)) (Is s 0) (sign l b bs)
sign (two c d s ∷ l) b bs = cond (eqb b (code c) && followed (code d) bs) (Is s (gap bs + 1)) (sign l b bs)

-- "Names are a letter, then letters and digits"; 4 is for a "name over 32 characters"
unfoldable pub sized : ℕ → ℕ → Lexeme
sized n k = cond (ltb 32 n) (Large k) (Is Name k)

unfoldable pub name : ℕ → List ℕ → Lexeme
name b bs = sized (length (letters (b ∷ bs))) (reach in_name bs)

-- "A number is a run of digits"; 4 is for a "number over 2,147,483,647"
unfoldable pub valued : ℕ → ℕ → Lexeme
valued v k = cond (ltb 2147483647 v) (Large k) (Is (Number v) k)

-- request 6: "at most 15 digits, leading zeros counted, a number with a point and more being 4". The digits make v and are n, of which m stand
-- behind the point
unfoldable pub pointed : ℕ → ℕ → ℕ → ℕ → Lexeme
pointed v n m k = cond (ltb 15 n) (Large k) (Is (Decimal (packed v m)) k)

-- a point needs a digit behind it: what is read where there is none; the digits before it; those behind it
unfoldable pub with_point : Lexeme → List ℕ → List ℕ → ℕ → Lexeme
with_point plain ds [] k = plain
with_point plain ds (e ∷ es) k =
    let all = ds ++ (e ∷ es) in
    pointed (value_from 0 all) (length all) (length (e ∷ es)) k

unfoldable pub number : ℕ → List ℕ → Lexeme
number b bs =
    let k = reach digit bs in
    let rest = drop k bs in
    with_point (valued (value (b ∷ bs)) k) (these digit (b ∷ bs)) (decimals rest) (k + 1 + reach digit (drop 1 rest))

-- behind a point with which a number begins
unfoldable pub point : List ℕ → Lexeme
point bs = with_point Nothing [] (these digit bs) (reach digit bs)

-- what the byte b, which is no blank, and those behind it begin with
unfoldable pub lexeme : ℕ → List ℕ → Lexeme
lexeme b bs =
    cond (letter b) (name b bs)
    (cond (digit b) (number b bs)
    (cond (eqb b (code ".")) (point bs)
    (cond (eqb b (code "'")) (word bs)
    (sign signs b bs))))

-- ---- where a note can open, and where a remark runs

-- "next after `;`, 'begin' or another note"; elsewhere; "After 'end'" (the enum `Context`: Opens, Plain, Remark)
unfoldable pub behind : Symbol → Context
behind s = cond (is s Semicolon || is s Begin) Opens (cond (is s End) Remark Plain)

-- "symbols are a remark up to 'end', 'else', `;` or the source's end"
unfoldable pub ends_remark : Symbol → Bool
ends_remark s = is s End || is s Else || is s Semicolon

-- ---- what is done at a byte

-- nothing is kept; a symbol is kept; or a refusal. The context behind it, and how many bytes more are passed over
-- (the enum `Turn`: Pass, Keep, Refuse)

-- "'comment' .. opens a note, any bytes, through the next `;`": k bytes of 'comment' come first; 3 is for a "note without `;`"
unfoldable pub note : ℕ → List ℕ → Turn
note k bs =
    let rest = drop k bs in
    cond (closed (code ";") rest) (Pass Opens (k + (length (before (code ";") rest) + 1))) (Refuse (answer no_symbol))

-- a symbol counts where n more may come; 4 is for one too many
unfoldable pub counted : ℕ → Symbol → ℕ → Turn
counted zero s k = Refuse (answer too_large)
counted (suc n) s k = Keep s (behind s) k

-- "Inside it no note opens, sizes are not tested, but what is no symbol is still refused."
unfoldable pub judged : ℕ → Context → Lexeme → List ℕ → Turn
judged n Opens (Is s k) bs = cond (is s Comment) (note k bs) (counted n s k)
judged n Plain (Is s k) bs = counted n s k
judged n Remark (Is s k) bs = cond (ends_remark s) (counted n s k) (Pass Remark k)
judged n Opens (Large k) bs = Refuse (answer too_large)
judged n Plain (Large k) bs = Refuse (answer too_large)
judged n Remark (Large k) bs = Pass Remark k
judged n Opens Nothing bs = Refuse (answer no_symbol)
judged n Plain Nothing bs = Refuse (answer no_symbol)
judged n Remark Nothing bs = Refuse (answer no_symbol)

unfoldable pub turn : ℕ → Context → ℕ → List ℕ → Turn
turn n c b bs = cond (blank b) (Pass c 0) (judged n c (lexeme b bs) bs)

-- ---- the symbols of a source

pub record Found : Type 0 where
  pub symbol : Symbol
  pub place : ℕ

-- the symbols in order, each with "its first byte"; and the refusal that ended them, if one did. The first thing that is wrong has the
-- smallest place, so that it is the one to answer: "then 3 and 4 by smallest place" (`first_fault` in proofs/FirstFault)
pub record Scan : Type 0 where
  pub found : List Found
  pub refused : Optional Refusal

abbrev pub whole : Scan
whole = record { found = []; refused = none }

abbrev pub stopped : Answer → ℕ → Scan
stopped a p = record { found = []; refused = some (refusal a.number p) }

abbrev pub kept : Symbol → ℕ → Scan → Scan
kept s p r = record { found = record { symbol = s; place = p } ∷ r.found; refused = r.refused }

-- what is said at the place p, with what is said behind it in a context, a number of bytes passed over
abbrev pub then : ℕ → Turn → (Context → ℕ → Scan) → (Context → ℕ → Scan) → Scan
then p (Pass c k) same less = same c k
then p (Keep s c k) same less = kept s p (less c k)
then p (Refuse a) same less = stopped a p

-- n: how many symbols may come; c: the context; p: the place of the first byte; k: how many bytes belong to what was read before
unfoldable pub scan_from : ℕ → Context → ℕ → ℕ → List ℕ → Scan
scan_from n c p k [] = whole
scan_from n c p (suc k) (b ∷ bs) = scan_from n c (p + 1) k bs
scan_from n c p zero (b ∷ bs) =
    then p (turn n c b bs) (λ c' k. scan_from n c' (p + 1) k bs) (λ c' k. scan_from (pred n) c' (p + 1) k bs)

-- a source, of which n symbols may come: "symbol 2,049" is one too many where n is 2,048
unfoldable pub scan : ℕ → List ℕ → Scan
scan n source = scan_from n Plain 0 0 source

-- of the symbols found: their kinds, their places, and the values of those that are numbers
abbrev pub kinds_of : List Found → List ℕ
kinds_of = map (λ f. kind f.symbol)

abbrev pub places_of : List Found → List ℕ
places_of = map (λ f. f.place)

abbrev pub values_of : List Found → List ℕ
values_of = map (λ f. value_of f.symbol)
