-- The symbols of any source, with their letters, can stand next to each other as they do: so they can be written with other blanks.
use mathlib.Core.Path.{◌≡◌, refl, sym, ap, subst, ◌∙◌}
use mathlib.Core.Bool.{Bool, true, false, cond, not, ◌&&◌, ◌||◌}
use mathlib.Core.List.{List, [], ◌∷◌, ◌++◌, map}
use Prim.Native.Nat.{ℕ, zero, suc, pred, ◌+◌, ◌≤◌, ◌<◌}
use native.Mathlib.Omega.{arith}
use lib.Dec.{eqb, ltb}
use lib.ListN.{length, drop}
use lib.Seq.{drop-drop}
use borrow.Author.Tests.{ltb-false, eqb-true, ne_eqb}
use Rattle.symbols.proofs.Laws.{both, name_first, digit_first}
use Rattle.symbols.proofs.Follows.{blank_no_digit}
use Rattle.symbols.specs.Names.{blank, letter, digit, in_name, these, reach, letters, value_from, value, decimals}
use Rattle.symbols.specs.Symbols.{Delimiter, words, Sign, one, two, signs, kind, is, packed}
use Rattle.symbols.specs.Scan.{before, closed, spelled, named, word, gap, followed, sign, sized, name, valued, pointed, with_point, number, point, lexeme, behind, ends_remark, note, counted, judged, turn, Found, Scan, then, scan_from, scan}
use Rattle.symbols.specs.declared.Context.{Context}
use Rattle.symbols.specs.declared.Context.TheVariants.{Opens, Plain, Remark}
use Rattle.std.specs.Prelude.{Option, Some, None}
use Rattle.symbols.specs.declared.Lexeme.{Lexeme}
use Rattle.symbols.specs.declared.Lexeme.TheVariants.{Is, Large, Nothing}
use Rattle.symbols.specs.declared.Turn.{Turn}
use Rattle.symbols.specs.declared.Turn.TheVariants.{Pass, Keep, Refuse}
use Rattle.symbols.specs.declared.Symbol.{Symbol}
use Rattle.symbols.specs.declared.Symbol.TheVariants.{Begin, End, Comment, Plus, Minus, Times, Divide, Less, LessEqual, Equal, GreaterEqual, Greater, NotEqual, Comma, Colon, Becomes, Semicolon, Open, Close, Name, Number, Slash, Decimal}
use Rattle.symbols.specs.Spelling as S
use Rattle.symbols.specs.Spelling.{Token, All, Proper, AllProper, dotted, figured, joins, admitted, Linked, Sound, with_decimals, read_off, token_at, tokens}
use Rattle.symbols.proofs.SpelledBytes.{ahead, ahead_past, followed_ahead, these_are, run_ends, some_ahead, dots_past, run_dots}
use Rattle.symbols.proofs.SpelledSymbols.{yes_no, token, blocks, FirstByte, blocks_joins, letter_begins, number_begins, decimal_begins, dot_begins}

-- ---- what is read at a byte: what it begins with, its letters, and what stands behind it

pub record Lexed (b : ℕ) (bs : List ℕ) (t : Symbol) (k : ℕ) : Type 0 where
  pub begins : FirstByte b bs (token t (read_off t (b ∷ bs)))
  pub proper : Proper t (read_off t (b ∷ bs))
  pub ends : blocks t (drop k bs) ≡ false

abbrev LexedAs : ℕ → List ℕ → Lexeme → Type 0
LexedAs b bs (Is t k) = Lexed b bs t k
LexedAs b bs (Large k) = Unit {0}
LexedAs b bs Nothing = Unit {0}

-- a symbol that goes on with nothing, and is no `=`
plain : Symbol → Bool
plain s = not (is s Name || is s (Number 0) || is s (Decimal 0) || is s Less || is s Greater || is s Colon || is s Equal)

record Plainly (s : Symbol) : Type 0 where
  no_name : is s Name ≡ false
  no_number : is s (Number 0) ≡ false
  no_decimal : is s (Decimal 0) ≡ false
  no_less : is s Less ≡ false
  no_greater : is s Greater ≡ false
  no_colon : is s Colon ≡ false
  no_equal : is s Equal ≡ false

plainly : (s : Symbol) → plain s ≡ true → Plainly s
unfolding plain
plainly s h = go (is s Name) (is s (Number 0)) (is s (Decimal 0)) (is s Less) (is s Greater) (is s Colon) (is s Equal) refl refl refl refl refl refl refl h
  where
    go : (t u d v w x y : Bool) → is s Name ≡ t → is s (Number 0) ≡ u → is s (Decimal 0) ≡ d → is s Less ≡ v → is s Greater ≡ w → is s Colon ≡ x → is s Equal ≡ y → not (t || u || d || v || w || x || y) ≡ true → Plainly s
    go true u d v w x y a b g c i e f h' = absurd (yes_no (sym h'))
    go false true d v w x y a b g c i e f h' = absurd (yes_no (sym h'))
    go false false true v w x y a b g c i e f h' = absurd (yes_no (sym h'))
    go false false false true w x y a b g c i e f h' = absurd (yes_no (sym h'))
    go false false false false true x y a b g c i e f h' = absurd (yes_no (sym h'))
    go false false false false false true y a b g c i e f h' = absurd (yes_no (sym h'))
    go false false false false false false true a b g c i e f h' = absurd (yes_no (sym h'))
    go false false false false false false false a b g c i e f h' = record { no_name = a; no_number = b; no_decimal = g; no_less = c; no_greater = i; no_colon = e; no_equal = f }

-- a byte that begins no name, no number and no `=`
record Else (b : ℕ) : Type 0 where
  dark : blank b ≡ false
  no_letter : letter b ≡ false
  no_digit : digit b ≡ false
  no_point : eqb b 46 ≡ false

other_lexed : (b : ℕ) (bs : List ℕ) (t : Symbol) (k : ℕ) → Else b → eqb b 61 ≡ false → plain t ≡ true → Lexed b bs t k
unfolding in_name figured dotted read_off blocks
other_lexed b bs t k o q h =
    let p = plainly t h in
    record {
      begins = record { dark = o.dark; named = rw (o.no_letter, o.no_digit, p.no_name, p.no_number, p.no_decimal); numbered = rw (o.no_digit, p.no_number, p.no_decimal); dot = rw (o.no_point, p.no_decimal); equals = rw (q, p.no_equal) };
      proper = rw (p.no_name, p.no_number, p.no_decimal) (S.other p.no_name p.no_number p.no_decimal);
      ends = rw (p.no_name, p.no_number, p.no_decimal, p.no_less, p.no_greater, p.no_colon);
    }

-- ---- words

plain_words : List Delimiter → Bool
plain_words [] = true
plain_words (x ∷ l) = plain x.symbol && plain_words l

abbrev SpelledAs : Option Symbol → Type 0
SpelledAs (Some s) = plain s ≡ true
SpelledAs None = Unit {0}

spelled_as : (l : List Delimiter) (w : List ℕ) → plain_words l ≡ true → SpelledAs (spelled l w)
unfolding spelled plain_words
spelled_as [] w h = tt
spelled_as (x ∷ l) w h =
    let k = both (plain x.symbol) (plain_words l) h in
    go (Rattle.symbols.specs.Names.same_name w (Rattle.symbols.specs.Text.bytes x.spelling)) k.0 (spelled_as l w k.1)
  where
    go : (t : Bool) → plain x.symbol ≡ true → SpelledAs (spelled l w) → SpelledAs (cond t (Some x.symbol) (spelled l w))
    go true a r = a
    go false a r = r

words_plain : plain_words words ≡ true
unfolding plain_words plain
words_plain = refl

named_as_lem : (b : ℕ) (bs : List ℕ) (r : Option Symbol) (k : ℕ) → Else b → eqb b 61 ≡ false → SpelledAs r → LexedAs b bs (named r k)
unfolding named
named_as_lem b bs (Some s) k o q h = other_lexed b bs s k o q h
named_as_lem b bs None k o q h = tt

word_as : (b : ℕ) (bs : List ℕ) → Else b → eqb b 61 ≡ false → LexedAs b bs (word bs)
unfolding word
word_as b bs o q = go (closed 39 bs)
  where
    go : (t : Bool) → LexedAs b bs (cond t (named (spelled words (before 39 bs)) (length (before 39 bs) + 1)) Nothing)
    go true = named_as_lem b bs (spelled words (before 39 bs)) (length (before 39 bs) + 1) o q (spelled_as words (before 39 bs) words_plain)
    go false = tt

-- ---- signs: `<`, `>` and `:`, which may be joined with `=`; `=`; the others

abbrev simple : List Sign
simple = one "+" Plus ∷ one "-" Minus ∷ one "*" Times ∷ one "%" Divide ∷ one "#" NotEqual ∷ one "," Comma ∷ one ";" Semicolon ∷ one "(" Open ∷ one ")" Close ∷ one "/" Slash ∷ []

plain_signs : List Sign → Bool
plain_signs [] = true
plain_signs (one c s ∷ l) = plain s && plain_signs l
plain_signs (two c d s ∷ l) = false

simple_as : (b : ℕ) (bs : List ℕ) (l : List Sign) → Else b → eqb b 61 ≡ false → plain_signs l ≡ true → LexedAs b bs (sign l b bs)
unfolding sign plain_signs
simple_as b bs [] o q h = tt
simple_as b bs (one c s ∷ r) o q h =
    let k = both (plain s) (plain_signs r) h in
    go (eqb b (Prim.Native.Char.code c)) (other_lexed b bs s 0 o q k.0) (simple_as b bs r o q k.1)
  where
    go : (t : Bool) → Lexed b bs s 0 → LexedAs b bs (sign r b bs) → LexedAs b bs (cond t (Is s 0) (sign r b bs))
    go true x y = x
    go false x y = y
simple_as b bs (two c e s ∷ r) o q h = absurd (yes_no (sym h))

sign_simple : (b : ℕ) (bs : List ℕ) → eqb b 60 ≡ false → eqb b 62 ≡ false → eqb b 58 ≡ false → eqb b 61 ≡ false → sign signs b bs ≡ sign simple b bs
unfolding sign
sign_simple b bs p q r s = rw (p, q, r, s)

-- a sign of one byte, which is b, where nothing joins it
lone : (b : ℕ) (bs : List ℕ) (t : Symbol) → FirstByte b bs (token t (read_off t (b ∷ bs))) → is t Name ≡ false → is t (Number 0) ≡ false → is t (Decimal 0) ≡ false → blocks t bs ≡ false → Lexed b bs t 0
unfolding read_off
lone b bs t g n m i e = record { begins = g; proper = rw (n, m, i) (S.other n m i); ends = e }

sign_as : (b : ℕ) (bs : List ℕ) → Else b → LexedAs b bs (sign signs b bs)
unfolding sign blank letter digit in_name figured dotted blocks plain plain_signs
sign_as b bs o = go (eqb b 60) (eqb b 62) (eqb b 58) (eqb b 61) refl refl refl refl
  where
    joined : (c : ℕ) (alone twin : Symbol) → Lexed c bs twin (gap bs + 1) → (eqb (ahead bs) 61 ≡ false → Lexed c bs alone 0)
        → LexedAs c bs (cond (followed 61 bs) (Is twin (gap bs + 1)) (Is alone 0))
    joined c alone twin x y = rw (followed_ahead 61 bs) (pick (eqb (ahead bs) 61) refl)
      where
        pick : (t : Bool) → eqb (ahead bs) 61 ≡ t → LexedAs c bs (cond t (Is twin (gap bs + 1)) (Is alone 0))
        pick true e = x
        pick false e = y e

    other : (c : ℕ) → blank c ≡ false → letter c ≡ false → digit c ≡ false → eqb c 46 ≡ false → Else c
    other c x y z w = record { dark = x; no_letter = y; no_digit = z; no_point = w }

    go : (t u v w : Bool) → eqb b 60 ≡ t → eqb b 62 ≡ u → eqb b 58 ≡ v → eqb b 61 ≡ w → LexedAs b bs (sign signs b bs)
    go true u v w p q r s =
        subst (λ (c : ℕ). LexedAs c bs (sign signs c bs)) (sym (eqb-true b 60 p))
        (joined 60 Less LessEqual (other_lexed 60 bs LessEqual (gap bs + 1) (other 60 refl refl refl refl) refl refl) (λ e. lone 60 bs Less (record { dark = refl; named = refl; numbered = refl; dot = refl; equals = refl }) refl refl refl e))
    go false true v w p q r s =
        subst (λ (c : ℕ). LexedAs c bs (sign signs c bs)) (sym (eqb-true b 62 q))
        (joined 62 Greater GreaterEqual (other_lexed 62 bs GreaterEqual (gap bs + 1) (other 62 refl refl refl refl) refl refl) (λ e. lone 62 bs Greater (record { dark = refl; named = refl; numbered = refl; dot = refl; equals = refl }) refl refl refl e))
    go false false true w p q r s =
        subst (λ (c : ℕ). LexedAs c bs (sign signs c bs)) (sym (eqb-true b 58 r))
        (joined 58 Colon Becomes (other_lexed 58 bs Becomes (gap bs + 1) (other 58 refl refl refl refl) refl refl) (λ e. lone 58 bs Colon (record { dark = refl; named = refl; numbered = refl; dot = refl; equals = refl }) refl refl refl e))
    go false false false true p q r s =
        subst (λ (c : ℕ). LexedAs c bs (sign signs c bs)) (sym (eqb-true b 61 s)) (lone 61 bs Equal (record { dark = refl; named = refl; numbered = refl; dot = refl; equals = refl }) refl refl refl refl)
    go false false false false p q r s = rw (sign_simple b bs p q r s) (simple_as b bs simple o s refl)

-- ---- names and numbers

no_more : (s : Bool) → s ≡ false → (s || false || false || false) ≡ false
no_more s e = rw e

no_digit_there : digit 0 ≡ false
no_digit_there = unfold digit in refl

decimals_nil : decimals [] ≡ []
unfolding decimals
decimals_nil = refl

decimals_dot : (c : ℕ) (cs : List ℕ) → eqb c 46 ≡ true → decimals (c ∷ cs) ≡ these digit cs
unfolding decimals
decimals_dot c cs z = rw z

decimals_other : (c : ℕ) (cs : List ℕ) → eqb c 46 ≡ false → decimals (c ∷ cs) ≡ []
unfolding decimals
decimals_other c cs z = rw z

module _ (b : ℕ) (bs : List ℕ) where
  name_lexed : letter b ≡ true → ltb 32 (length (letters (b ∷ bs))) ≡ false → Lexed b bs Name (reach in_name bs)
  unfolding read_off blocks
  name_lexed h e =
      let f = name_first b bs h in
      let l = ltb-false 32 (length (letters (b ∷ bs))) e in
      let m : length (letters bs) < 32 = omega (arith, ap length f) in
      record { begins = letter_begins b bs (letters (b ∷ bs)) h; proper = rw f (S.name h (these_are in_name bs) m); ends = no_more (in_name (ahead (drop (reach in_name bs) bs))) (run_ends in_name none_there bs) }
    where
      none_there : in_name 0 ≡ false
      none_there = unfold in_name letter digit in refl

  name_as : letter b ≡ true → LexedAs b bs (Rattle.symbols.specs.Scan.name b bs)
  unfolding name sized
  name_as h = go (ltb 32 (length (letters (b ∷ bs)))) refl
    where
      go : (t : Bool) → ltb 32 (length (letters (b ∷ bs))) ≡ t → LexedAs b bs (cond t (Large (reach in_name bs)) (Is Name (reach in_name bs)))
      go true e = tt
      go false e = name_lexed h e

  none_behind : (plain : Lexeme) (ds es : List ℕ) (k : ℕ) → es ≡ [] → LexedAs b bs plain → LexedAs b bs (with_point plain ds es k)
  unfolding with_point
  none_behind plain ds es k z p = rw z p

  -- digits ds, the point, and cs behind it
  decimal_lexed : (ds cs : List ℕ) (k : ℕ) → with_decimals (b ∷ bs) ≡ ds ++ (46 ∷ these digit cs) → All digit ds → 0 < length (these digit cs) → length (ds ++ these digit cs) ≤ 15
      → ((w : ℕ) → FirstByte b bs (token (Decimal w) (ds ++ (46 ∷ these digit cs)))) → drop k bs ≡ drop (reach digit cs) cs
      → Lexed b bs (Decimal (packed (value_from 0 (ds ++ these digit cs)) (length (these digit cs)))) k
  unfolding read_off blocks
  decimal_lexed ds cs k w a o n g d =
      let v = packed (value_from 0 (ds ++ these digit cs)) (length (these digit cs)) in
      record {
        begins = subst (λ (l : List ℕ). FirstByte b bs (token (Decimal v) l)) (sym w) (g v);
        proper = S.decimal ds (these digit cs) w a (these_are digit cs) o n refl;
        ends = rw (d, run_ends digit no_digit_there cs);
      }

  decimal_as : (plain : Lexeme) (ds cs : List ℕ) (k : ℕ) → (these digit cs ≡ [] → LexedAs b bs plain) → with_decimals (b ∷ bs) ≡ ds ++ (46 ∷ these digit cs) → All digit ds
      → (0 < length (these digit cs) → (w : ℕ) → FirstByte b bs (token (Decimal w) (ds ++ (46 ∷ these digit cs)))) → drop k bs ≡ drop (reach digit cs) cs
      → LexedAs b bs (with_point plain ds (these digit cs) k)
  decimal_as plain ds cs k p w a g d = go (these digit cs) refl
    where
      go : (es : List ℕ) → these digit cs ≡ es → LexedAs b bs (with_point plain ds es k)
      go [] z = none_behind plain ds [] k refl (p z)
      go (e ∷ es) z = unfold with_point pointed in pick (ltb 15 (length (ds ++ (e ∷ es)))) refl
        where
          pick : (t : Bool) → ltb 15 (length (ds ++ (e ∷ es))) ≡ t → LexedAs b bs (cond t (Large k) (Is (Decimal (packed (value_from 0 (ds ++ (e ∷ es))) (length (e ∷ es)))) k))
          pick true y = tt
          pick false y =
              let o : 0 < length (these digit cs) = omega (arith, ap length z) in
              let n = ltb-false 15 (length (ds ++ (e ∷ es))) y in
              subst (λ (l : List ℕ). Lexed b bs (Decimal (packed (value_from 0 (ds ++ l)) (length l))) k) z
              (decimal_lexed ds cs k w a o (subst (λ (l : List ℕ). length (ds ++ l) ≤ 15) (sym z) n) (g o) d)

  number_lexed : digit b ≡ true → decimals (drop (reach digit bs) bs) ≡ [] → ltb 2147483647 (value (b ∷ bs)) ≡ false → Lexed b bs (Number (value (b ∷ bs))) (reach digit bs)
  unfolding read_off blocks
  number_lexed h z e =
      let v = value (b ∷ bs) in
      let f = digit_first b bs h in
      let l = ltb-false 2147483647 v e in
      record {
        begins = number_begins v b bs (these digit (b ∷ bs)) h;
        proper = subst (Proper (Number v)) (sym f) (S.number h (these_are digit bs) (ap (value_from 0) (sym f)) l);
        ends = rw (run_ends digit no_digit_there bs, run_dots bs z);
      }

  plain_as : digit b ≡ true → decimals (drop (reach digit bs) bs) ≡ [] → LexedAs b bs (valued (value (b ∷ bs)) (reach digit bs))
  unfolding valued
  plain_as h z = go (ltb 2147483647 (value (b ∷ bs))) refl
    where
      go : (t : Bool) → ltb 2147483647 (value (b ∷ bs)) ≡ t → LexedAs b bs (cond t (Large (reach digit bs)) (Is (Number (value (b ∷ bs))) (reach digit bs)))
      go true e = tt
      go false e = number_lexed h z e

  number_as : digit b ≡ true → LexedAs b bs (Rattle.symbols.specs.Scan.number b bs)
  unfolding number
  number_as h = go (drop (reach digit bs) bs) refl
    where
      -- the letters with the point
      letters_are : (cs : List ℕ) → drop (reach digit bs) bs ≡ 46 ∷ cs → with_decimals (b ∷ bs) ≡ these digit (b ∷ bs) ++ (46 ∷ these digit cs)
      letters_are cs e =
          unfold with_decimals decimals in
          (let r : reach digit (b ∷ bs) ≡ suc (reach digit bs) = unfold reach in rw h in
          rw (r, e))

      starts : (cs : List ℕ) (w : ℕ) → FirstByte b bs (token (Decimal w) (these digit (b ∷ bs) ++ (46 ∷ these digit cs)))
      starts cs w = rw (digit_first b bs h) (decimal_begins w b bs (these digit bs ++ (46 ∷ these digit cs)) h)

      left : (cs : List ℕ) → drop (reach digit bs) bs ≡ 46 ∷ cs → drop (reach digit bs + 1 + reach digit cs) bs ≡ drop (reach digit cs) cs
      left cs e =
          let m : reach digit bs + 1 + reach digit cs ≡ reach digit bs + suc (reach digit cs) = omega arith in
          rw m (sym (drop-drop (suc (reach digit cs)) (reach digit bs) bs) ∙ ap (drop (suc (reach digit cs))) e)

      go : (rest : List ℕ) → drop (reach digit bs) bs ≡ rest
          → LexedAs b bs (with_point (valued (value (b ∷ bs)) (reach digit bs)) (these digit (b ∷ bs)) (decimals rest) (reach digit bs + 1 + reach digit (drop 1 rest)))
      go [] e = none_behind (valued (value (b ∷ bs)) (reach digit bs)) (these digit (b ∷ bs)) (decimals []) (reach digit bs + 1 + reach digit []) decimals_nil (plain_as h (ap decimals e ∙ decimals_nil))
      go (c ∷ cs) e = pick (eqb c 46) refl
        where
          pick : (t : Bool) → eqb c 46 ≡ t
              → LexedAs b bs (with_point (valued (value (b ∷ bs)) (reach digit bs)) (these digit (b ∷ bs)) (decimals (c ∷ cs)) (reach digit bs + 1 + reach digit cs))
          pick true z =
              let e' : drop (reach digit bs) bs ≡ 46 ∷ cs = e ∙ ap (λ (x : ℕ). x ∷ cs) (eqb-true c 46 z) in
              let q = decimals_dot c cs z in
              rw q
              (decimal_as (valued (value (b ∷ bs)) (reach digit bs)) (these digit (b ∷ bs)) cs (reach digit bs + 1 + reach digit cs)
              (λ y. plain_as h (ap decimals e ∙ q ∙ y)) (letters_are cs e') (these_are digit (b ∷ bs)) (λ o. starts cs) (left cs e'))
          pick false z =
              let q = decimals_other c cs z in
              none_behind (valued (value (b ∷ bs)) (reach digit bs)) (these digit (b ∷ bs)) (decimals (c ∷ cs)) (reach digit bs + 1 + reach digit cs) q (plain_as h (ap decimals e ∙ q))

  point_as : b ≡ 46 → LexedAs b bs (point bs)
  unfolding point
  point_as e =
      decimal_as Nothing [] bs (reach digit bs) (λ y. tt) letters_are tt starts refl
    where
      letters_are : with_decimals (b ∷ bs) ≡ 46 ∷ these digit bs
      letters_are = unfold with_decimals decimals these reach digit blank in rw e

      starts : 0 < length (these digit bs) → (w : ℕ) → FirstByte b bs (token (Decimal w) (46 ∷ these digit bs))
      starts o w = rw e (dot_begins w bs (these digit bs) (some_ahead digit bs blank_no_digit o))

pub lexed : (b : ℕ) (bs : List ℕ) → blank b ≡ false → LexedAs b bs (lexeme b bs)
unfolding lexeme
lexed b bs d = go (letter b) (digit b) (eqb b 46) (eqb b 39) refl refl refl refl
  where
    go : (t u w v : Bool) → letter b ≡ t → digit b ≡ u → eqb b 46 ≡ w → eqb b 39 ≡ v
        → LexedAs b bs (cond t (Rattle.symbols.specs.Scan.name b bs) (cond u (Rattle.symbols.specs.Scan.number b bs) (cond w (point bs) (cond v (word bs) (sign signs b bs)))))
    go true u w v e f i g = name_as b bs e
    go false true w v e f i g = number_as b bs f
    go false false true v e f i g = point_as b bs (eqb-true b 46 i)
    go false false false true e f i g =
        word_as b bs (record { dark = d; no_letter = e; no_digit = f; no_point = i }) (let z = eqb-true b 39 g in ne_eqb b 61 (λ y. omega arith))
    go false false false false e f i g = sign_as b bs (record { dark = d; no_letter = e; no_digit = f; no_point = i })

-- ---- what is done at a byte

pub data Turned (n : ℕ) (c : Context) (b : ℕ) (bs : List ℕ) : Turn → Type 0 where
  passes : {d : Context} {k : ℕ} → d ≡ c → (c ≡ Plain → (blank b ≡ true) × (k ≡ 0)) → Turned n c b bs (Pass d k)
  keeps : {t : Symbol} {d : Context} {k : ℕ} → d ≡ behind t → blank b ≡ false → lexeme b bs ≡ Is t k → Lexed b bs t k → admitted c t ≡ true → 0 < n → Turned n c b bs (Keep t d k)
  refuses : {a : Rattle.answers.specs.declared.Answer.Answer} → Turned n c b bs (Refuse a)

opens_plain : Opens ≡ Plain → ⊥
opens_plain e = let z : ◌≡◌ {A = ℕ} 0 1 = cc in omega arith

remark_plain : Remark ≡ Plain → ⊥
remark_plain e = let z : ◌≡◌ {A = ℕ} 0 1 = cc in omega arith

module _ (b : ℕ) (bs : List ℕ) (d : blank b ≡ false) where
  counted_turned : (n : ℕ) (c : Context) (t : Symbol) (k : ℕ) → lexeme b bs ≡ Is t k → Lexed b bs t k → admitted c t ≡ true → Turned n c b bs (counted n t k)
  unfolding counted
  counted_turned zero c t k g x a = refuses
  counted_turned (suc n) c t k g x a = keeps refl d g x a (omega arith)

  note_turned : (n k : ℕ) → Turned n Opens b bs (note k bs)
  unfolding note
  note_turned n k = go (closed 59 (drop k bs))
    where
      go : (t : Bool) → Turned n Opens b bs (cond t (Pass Opens (k + (length (before 59 (drop k bs)) + 1))) (Refuse (Rattle.answers.specs.Answers.answer Rattle.answers.specs.Numbers.no_symbol)))
      go true = passes refl (λ e. absurd (opens_plain e))
      go false = refuses

  judged_turned : (n : ℕ) (c : Context) (x : Lexeme) → lexeme b bs ≡ x → LexedAs b bs x → Turned n c b bs (judged n c x bs)
  unfolding judged admitted
  judged_turned n Opens (Is s k) g h = go (is s Comment) refl
    where
      go : (t : Bool) → is s Comment ≡ t → Turned n Opens b bs (cond t (note k bs) (counted n s k))
      go true e = note_turned n k
      go false e = counted_turned n Opens s k g h (ap not e)
  judged_turned n Plain (Is s k) g h = counted_turned n Plain s k g h refl
  judged_turned n Remark (Is s k) g h = go (ends_remark s) refl
    where
      go : (t : Bool) → ends_remark s ≡ t → Turned n Remark b bs (cond t (counted n s k) (Pass Remark k))
      go true e = counted_turned n Remark s k g h e
      go false e = passes refl (λ e. absurd (remark_plain e))
  judged_turned n Opens (Large k) g h = refuses
  judged_turned n Plain (Large k) g h = refuses
  judged_turned n Remark (Large k) g h = passes refl (λ e. absurd (remark_plain e))
  judged_turned n Opens Nothing g h = refuses
  judged_turned n Plain Nothing g h = refuses
  judged_turned n Remark Nothing g h = refuses

pub turned : (n : ℕ) (c : Context) (b : ℕ) (bs : List ℕ) → Turned n c b bs (turn n c b bs)
unfolding turn
turned n c b bs = go (blank b) refl
  where
    go : (t : Bool) → blank b ≡ t → Turned n c b bs (cond t (Pass c 0) (judged n c (lexeme b bs) bs))
    go true e = passes refl (λ f. (e, refl))
    go false e = judged_turned b bs e n c (lexeme b bs) refl (lexed b bs e)

-- ---- a symbol behind which a note can open or a remark runs goes on with nothing

calm : (s : Symbol) (x : List ℕ) → (behind s ≡ Plain → blocks s x ≡ false) → blocks s x ≡ false
unfolding behind blocks
calm s x h = go (is s Semicolon) (is s Begin) (is s End) refl refl refl
  where
    go : (t u v : Bool) → is s Semicolon ≡ t → is s Begin ≡ u → is s End ≡ v → blocks s x ≡ false
    go true u v e f g = let q : kind s ≡ 35 = eqb-true (kind s) 35 e in rw q
    go false true v e f g = let q : kind s ≡ 0 = eqb-true (kind s) 0 f in rw q
    go false false true e f g = let q : kind s ≡ 1 = eqb-true (kind s) 1 g in rw q
    go false false false e f g = h (rw (e, f, g))

-- ---- the symbols of a source

blocks_past : (s : Symbol) (b : ℕ) (bs : List ℕ) → blank b ≡ true → blocks s (b ∷ bs) ≡ blocks s bs
unfolding blocks
blocks_past s b bs e = rw (ahead_past b bs e, dots_past b bs e)

module _ (S : List ℕ) where
  -- behind s, from a scan that may keep n symbols
  pub record Own (n : ℕ) (s : Symbol) (l : List Found) : Type 0 where
    pub proper : AllProper (map (token_at S) l)
    pub linked : Linked s (map (token_at S) l)
    pub few : length l ≤ n

  abbrev Claim : List ℕ → Type 0
  Claim bs = (n : ℕ) (c : Context) (s : Symbol) (p k : ℕ) → c ≡ behind s → drop p S ≡ bs → (behind s ≡ Plain → blocks s (drop k bs) ≡ false) → Own n s (scan_from n c p k bs).found

  none_own : (n : ℕ) (s : Symbol) → Own n s []
  none_own n s = record { proper = tt; linked = tt; few = omega arith }

  at_turn : (b : ℕ) (bs : List ℕ) → Claim bs → (n : ℕ) (c : Context) (s : Symbol) (p : ℕ) → c ≡ behind s → drop p S ≡ b ∷ bs → (behind s ≡ Plain → blocks s (b ∷ bs) ≡ false)
      → (t : Turn) → Turned n c b bs t → Own n s (then p t (λ c k. scan_from n c (p + 1) k bs) (λ c k. scan_from (pred n) c (p + 1) k bs)).found
  at_turn b bs rec n c s p q d h (Pass c' k) (passes e f) = rec n c' s (p + 1) k (e ∙ q) (sym (drop-drop 1 p S) ∙ ap (drop 1) d)
      (λ g. let y = f (q ∙ g) in ap (λ (j : ℕ). blocks s (drop j bs)) y.1 ∙ sym (blocks_past s b bs y.0) ∙ h g)
  at_turn b bs rec n c s p q d h (Keep t c' k) (keeps e f y x a m) =
      let r = rec (pred n) c' t (p + 1) k e (sym (drop-drop 1 p S) ∙ ap (drop 1) d) (λ g. x.ends) in
      let z : blocks s (b ∷ bs) ≡ false = calm s (b ∷ bs) h in
      record {
        proper = (subst (λ (l : List ℕ). Proper t (read_off t l)) (sym d) x.proper, r.proper);
        linked = (record { apart = ap (λ (l : List ℕ). joins s (token t (read_off t l))) d ∙ sym (blocks_joins s (token t (read_off t (b ∷ bs))) b bs x.begins) ∙ z; counts = ap (λ (y : Context). admitted y t) (sym q) ∙ a }, r.linked);
        few = omega (arith, r.few);
      }
  at_turn b bs rec n c s p q d h (Refuse a) y = none_own n s

  own : (bs : List ℕ) → Claim bs
  unfolding scan_from
  own [] n c s p zero q d h = none_own n s
  own [] n c s p (suc k) q d h = none_own n s
  own (b ∷ bs) n c s p (suc k) q d h = own bs n c s (p + 1) k q (sym (drop-drop 1 p S) ∙ ap (drop 1) d) h
  own (b ∷ bs) n c s p zero q d h = at_turn b bs (own bs) n c s p q d h (turn n c b bs) (turned n c b bs)

  pub own_found : (n : ℕ) → Own n Comma (scan n S).found
  unfolding scan blocks behind
  own_found n = own S n Plain Comma 0 0 refl refl (λ g. refl)

linked_sound : (s : Symbol) (l : List Token) → Linked s l → Sound l
linked_sound s [] h = tt
linked_sound s (t ∷ l) h = h.1

-- of any source the symbols with their letters can be written again
pub source_proper : (n : ℕ) (source : List ℕ) → AllProper (tokens n source)
source_proper n source = (own_found source n).proper

pub source_sound : (n : ℕ) (source : List ℕ) → Sound (tokens n source)
source_sound n source = linked_sound Comma (tokens n source) (own_found source n).linked

pub source_few : (n : ℕ) (source : List ℕ) → length (scan n source).found ≤ n
source_few n source = (own_found source n).few
