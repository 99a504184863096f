-- Sources read by computation: the settled readings that a small source shows, as one table; and two wrong readings refuted by one each: a
-- remark that runs on past 'else', and a word told by its length and first letter alone.
use Prim.Native.Nat.{ℕ}
use Prim.Native.String.{String}
use mathlib.Core.Path.{◌≡◌, refl}
use mathlib.Core.List.{List, [], ◌∷◌}
use mathlib.Core.Option.{none, some}
use native.Mathlib.Omega.{arith}
use lib.ListN.{length}
use Rattle.answers.specs.Answers.{refusal}
use Rattle.symbols.specs.Text.{bytes}
use Rattle.symbols.specs.Symbols.{packed}
use Rattle.symbols.specs.Names.{blank, letter, digit, in_name, these, reach, value_from, decimals, equal, folded, same_name}
use Rattle.symbols.specs.Scan.{before, closed, spelled, named, word, gap, followed, sign, sized, name, valued, pointed, with_point, number, point, lexeme, behind, ends_remark, note, counted, judged, turn, scan_from, scan, Found, Scan}
use Rattle.symbols.specs.declared.Symbol.{Symbol}
use Rattle.symbols.specs.declared.Symbol.TheVariants.{Name, Comment, Begin, End, Else, Boolean, Then, True, Semicolon, LessEqual, Number, Equal, Colon, Becomes, Greater, Minus, Comma, Real, Slash, Decimal}

abbrev at : Symbol → ℕ → Found
at s p = record { symbol = s; place = p }

-- so many symbols may come; the source; the symbols; the refusal, if there is one
record Row : Type 0 where
  limit : ℕ
  source : String
  expected : Scan

abbrev reads : ℕ → String → List Found → Row
reads n s l = record { limit = n; source = s; expected = record { found = l; refused = none } }

abbrev fails : ℕ → String → List Found → ℕ → ℕ → Row
fails n s l m p = record { limit = n; source = s; expected = record { found = l; refused = some (refusal m p) } }

abbrev rows : List Row
rows =
    -- L1: a misplaced 'comment' opens no note
    fails 2048 "a 'comment' b?" (at Name 0 ∷ at Comment 2 ∷ at Name 12 ∷ []) 3 13 ∷
    -- L2: nor does one in a remark
    reads 2048 "'begin' 'end' 'comment' x" (at Begin 0 ∷ at End 8 ∷ []) ∷
    -- L3: the `;` ends the remark
    reads 2048 "'end' 'begin' 'comment' x; y" (at End 0 ∷ at Semicolon 25 ∷ at Name 27 ∷ []) ∷
    -- L4, L7: blanks inside names, numbers and signs
    reads 2048 "pay rate < = 1 2" (at Name 0 ∷ at LessEqual 9 ∷ at (Number 12) 13 ∷ []) ∷
    -- L6: a blank in a word spoils it; the next apostrophe closes it
    fails 2048 "'be gin'" [] 3 0 ∷
    fails 2048 "'begin'end'" (at Begin 0 ∷ at Name 7 ∷ []) 3 10 ∷
    -- 3.a: length and first letter are not enough, and 'then' and 'true' share both
    reads 2048 "'then' 'true'" (at Then 0 ∷ at True 7 ∷ []) ∷
    fails 2048 "'true' 'thue'" (at True 0 ∷ []) 3 7 ∷
    fails 2048 "'then' 'tren'" (at Then 0 ∷ []) 3 7 ∷
    -- L7: joined from the left; `=` first joins with nothing
    reads 2048 "<== ::= = >" (at LessEqual 0 ∷ at Equal 2 ∷ at Colon 4 ∷ at Becomes 5 ∷ at Equal 8 ∷ at Greater 10 ∷ []) ∷
    -- L8: one symbol too many; notes and remarks do not count
    fails 3 "; 'comment' a; 'end' b c; 'end'" (at Semicolon 0 ∷ at End 15 ∷ at Semicolon 24 ∷ []) 4 26 ∷
    -- L9: what is no symbol is not one too many
    fails 2 ";;?" (at Semicolon 0 ∷ at Semicolon 1 ∷ []) 3 2 ∷
    -- L10: the first fault is the one with the smallest place
    fails 2048 "2147483648?" [] 4 0 ∷
    -- L11, L14: a remark follows every 'end', and its sizes are not tested
    reads 2048 "'end' 9999999999" (at End 0 ∷ []) ∷
    fails 2048 "'end' don't" (at End 0 ∷ []) 3 9 ∷
    -- L13: a note without `;`, the second of two
    fails 2048 "'begin' 'comment' one; 'comment' two" (at Begin 0 ∷ []) 3 23 ∷
    -- L15: numbers have no sign
    fails 2048 "-2147483648" (at Minus 0 ∷ []) 4 1 ∷
    -- nothing at all
    reads 2048 "" [] ∷
    -- 6.a: 'real' and `/`
    reads 2048 "'real' a / b" (at Real 0 ∷ at Name 7 ∷ at Slash 9 ∷ at Name 11 ∷ []) ∷
    -- 6.b: numbers with a point; a point needs a digit behind it
    reads 2048 "1.5, .5, 1 . 2 5, 007.50" (at (Decimal (packed 15 1)) 0 ∷ at Comma 3 ∷ at (Decimal (packed 5 1)) 5 ∷ at Comma 7 ∷ at (Decimal (packed 125 2)) 9 ∷ at Comma 16 ∷ at (Decimal (packed 750 2)) 18 ∷ []) ∷
    fails 2048 "1." (at (Number 1) 0 ∷ []) 3 1 ∷
    fails 2048 "1..5" (at (Number 1) 0 ∷ []) 3 1 ∷
    reads 2048 "1.5.2" (at (Decimal (packed 15 1)) 0 ∷ at (Decimal (packed 2 1)) 3 ∷ []) ∷
    reads 2048 "a.5" (at Name 0 ∷ at (Decimal (packed 5 1)) 1 ∷ []) ∷
    fails 2048 "a.b" (at Name 0 ∷ []) 3 1 ∷
    -- 6.c: 15 digits, leading zeros counted; only without a point is the value tested
    reads 2048 "000000000000.125, 2147483648.0" (at (Decimal (packed 125 3)) 0 ∷ at Comma 16 ∷ at (Decimal (packed 21474836480 1)) 18 ∷ []) ∷
    fails 2048 "0000000000000.125" [] 4 0 ∷
    -- 6.e: in a remark a point alone is no symbol, and sizes are not tested
    fails 2048 "'end' of the deed." (at End 0 ∷ []) 3 17 ∷
    reads 2048 "'end' clause 1.55555555555555555" (at End 0 ∷ []) ∷
    -- request 8: delimiter words in any case, 'comment' and what ends a remark too; nothing else is forgiven
    reads 2048 "'BEGIN' 'bOOLEAN' 'eNd'" (at Begin 0 ∷ at Boolean 8 ∷ at End 18 ∷ []) ∷
    reads 2048 "'Begin' 'COMMENT' Any; 'END' Of it 'ELSE'" (at Begin 0 ∷ at End 23 ∷ at Else 35 ∷ []) ∷
    fails 2048 "'BE GIN'" [] 3 0 ∷
    fails 2048 "'THUE'" [] 3 0 ∷
    []

abbrev Right : List Row → Type 0
Right [] = Unit {0}
Right (r ∷ l) = (scan r.limit (bytes r.source) ≡ r.expected) × Right l

pub readings : Right rows
unfolding scan scan_from turn judged counted note lexeme point number decimals with_point pointed valued name sized sign followed gap word named spelled closed before behind ends_remark blank letter digit in_name these reach value_from equal folded same_name
readings = (refl, (refl, (refl, (refl, (refl, (refl, (refl, (refl, (refl, (refl, (refl, (refl, (refl, (refl, (refl, (refl, (refl, (refl, (refl, (refl, (refl, (refl, (refl, (refl, (refl, (refl, (refl, (refl, (refl, (refl, (refl, (refl, (refl, tt)))))))))))))))))))))))))))))))))

-- a remark that ran on past 'else' would leave one symbol here; there are three
pub not_past_else : length (scan 2048 (bytes "'end' a remark 'else' b")).found ≡ 1 → ⊥
unfolding scan scan_from turn judged counted note lexeme point number decimals with_point pointed valued name sized sign followed gap word named spelled closed before behind ends_remark blank letter digit in_name these reach value_from equal folded same_name
not_past_else e = omega arith

-- a word told by its length and first letter alone would be read here, as 'then' or as 'true'; there is none
pub not_by_key_alone : length (scan 2048 (bytes "'thue'")).found ≡ 1 → ⊥
unfolding scan scan_from turn judged counted note lexeme point number decimals with_point pointed valued name sized sign followed gap word named spelled closed before behind ends_remark blank letter digit in_name these reach value_from equal folded same_name
not_by_key_alone e = omega arith
