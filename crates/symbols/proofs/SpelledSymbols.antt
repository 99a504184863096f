-- A symbol that is spelled out reads back as itself, whatever follows that would not go on with it.
use mathlib.Core.Path.{◌≡◌, refl, sym, ap, subst, ◌∙◌}
use mathlib.Core.Bool.{Bool, true, false, ◌&&◌, ◌||◌}
use mathlib.Core.List.{List, [], ◌∷◌, ◌++◌, append_assoc}
use Prim.Native.Nat.{ℕ, suc, ◌+◌, ◌≤◌, ◌<◌}
use native.Mathlib.Omega.{arith}
use lib.Dec.{eqb, leb}
use lib.ListN.{length, drop, length-append}
use lib.Seq.{drop-append-add}
use borrow.Author.Tests.{le-ltb, leb-true, ne_eqb}
use Rattle.symbols.proofs.Follows.{blank_no_name, blank_no_digit, lexeme_dot}
use Rattle.symbols.proofs.Laws.{both, digit_range, digit_first}
use Rattle.symbols.proofs.Resume.{skip}
use Rattle.symbols.specs.Text.{bytes}
use Rattle.symbols.specs.Names.{blank, letter, digit, in_name, these, reach, value_from, decimals, equal, folded, same_name}
use Rattle.symbols.specs.Symbols.{is, packed}
use Rattle.symbols.specs.Scan.{spelled, gap, followed, sign, sized, name, valued, pointed, with_point, number, point, lexeme, scan_from}
use Rattle.symbols.specs.declared.Context.{Context}
use Rattle.symbols.specs.declared.Lexeme.{Lexeme}
use Rattle.symbols.specs.declared.Lexeme.TheVariants.{Is, Nothing}
use Rattle.symbols.specs.declared.Symbol.{Symbol}
use Rattle.symbols.specs.declared.Symbol.TheVariants.{Begin, End, If, Then, Else, For, Do, Step, Until, While, Comment, Integer, Boolean, Procedure, Value, True, False, And, Or, Not, Impl, Equiv, Plus, Minus, Times, Divide, Less, LessEqual, Equal, GreaterEqual, Greater, NotEqual, Comma, Colon, Becomes, Semicolon, Open, Close, Name, Number, Real, Slash, Decimal}
use Rattle.symbols.specs.Spelling.{Token, All, Proper, word_for, sign_for, spell, dotted, figured, joins, with_decimals, read_off}
use Rattle.symbols.specs.Spelling as S
use Rattle.symbols.proofs.SpelledBytes.{ahead, ahead_here, ahead_end, ahead_behind, followed_ahead, these_all, reach_all, dots, dots_here, dots_end, dots_behind, dots_none, word_closed, gap_passed}

pub yes_no : true ≡ false → ⊥
yes_no e = let z : ◌≡◌ {A = ℕ} 0 1 = cc in omega arith

abbrev pub token : Symbol → List ℕ → Token
token s l = record { symbol = s; letters = l }

-- ---- what a byte would go on with

-- zs would be read with s: its first byte that is no blank, or a point and a digit
unfoldable pub blocks : Symbol → List ℕ → Bool
blocks s zs =
    (is s Name && in_name (ahead zs))
    || (is s (Number 0) && (digit (ahead zs) || dots zs))
    || (is s (Decimal 0) && digit (ahead zs))
    || ((is s Less || is s Greater || is s Colon) && eqb (ahead zs) 61)

-- the byte b, which bs follow, can begin t
pub record FirstByte (b : ℕ) (bs : List ℕ) (t : Token) : Type 0 where
  pub dark : blank b ≡ false
  pub named : in_name b ≡ (is t.symbol Name || figured t)
  pub numbered : digit b ≡ figured t
  pub dot : (eqb b 46 && digit (ahead bs)) ≡ dotted t
  pub equals : eqb b 61 ≡ is t.symbol Equal

pub blocks_joins : (s : Symbol) (t : Token) (b : ℕ) (bs : List ℕ) → FirstByte b bs t → blocks s (b ∷ bs) ≡ joins s t
unfolding blocks joins
blocks_joins s t b bs h = rw (ahead_here b bs h.dark, dots_here b bs h.dark, h.dot, h.named, h.numbered, h.equals)

and_no : (t : Bool) → (t && false) ≡ false
and_no true = refl
and_no false = refl

-- nothing goes on at the end, and blanks are no matter
pub blocks_end : (s : Symbol) (e : List ℕ) → All blank e → blocks s e ≡ false
unfolding blocks in_name letter digit
blocks_end s e h =
    rw (ahead_end e h, dots_end e h) (rw (and_no (is s Name), and_no (is s (Number 0)), and_no (is s (Decimal 0)), and_no (is s Less || is s Greater || is s Colon)))

pub blocks_behind : (s : Symbol) (g zs : List ℕ) → All blank g → blocks s (g ++ zs) ≡ blocks s zs
unfolding blocks
blocks_behind s g zs h = rw (ahead_behind g zs h, dots_behind g zs h)

-- ---- letters and digits

letter_low : (b : ℕ) → letter b ≡ true → 65 ≤ b
unfolding letter
letter_low b h = go (leb 97 b && leb b 122) (leb 65 b && leb b 90) refl refl h
  where
    go : (t u : Bool) → (leb 97 b && leb b 122) ≡ t → (leb 65 b && leb b 90) ≡ u → (t || u) ≡ true → 65 ≤ b
    go true u e f h' = let k = leb-true 97 b (both (leb 97 b) (leb b 122) e).0 in omega arith
    go false true e f h' = leb-true 65 b (both (leb 65 b) (leb b 90) f).0
    go false false e f h' = absurd (yes_no (sym h'))

against : (t u : Bool) → (t ≡ true → u ≡ false) → u ≡ true → t ≡ false
against true u f h = absurd (yes_no (sym h ∙ f refl))
against false u f h = refl

impossible : (t : Bool) → (t ≡ true → ⊥) → t ≡ false
impossible true f = absurd (f refl)
impossible false f = refl

pub letter_named : (b : ℕ) → letter b ≡ true → in_name b ≡ true
unfolding in_name
letter_named b h = rw h

or_yes : (t : Bool) → (t || true) ≡ true
or_yes true = refl
or_yes false = refl

pub digit_named : (b : ℕ) → digit b ≡ true → in_name b ≡ true
unfolding in_name
digit_named b h = rw h (or_yes (letter b))

no_dot : (b : ℕ) → (b ≡ 46 → ⊥) → eqb b 46 ≡ false
no_dot b h = ne_eqb b 46 h

pub letter_begins : (b : ℕ) (bs l : List ℕ) → letter b ≡ true → FirstByte b bs (token Name l)
unfolding figured dotted
letter_begins b bs l h =
    let k = letter_low b h in
    record {
      dark = against (blank b) (in_name b) (blank_no_name b) (letter_named b h);
      named = letter_named b h;
      numbered = impossible (digit b) (λ e. let r = digit_range b e in omega arith);
      dot = rw (no_dot b (λ e. omega arith));
      equals = ne_eqb b 61 (λ e. omega arith);
    }

digit_dark : (b : ℕ) → digit b ≡ true → blank b ≡ false
digit_dark b h = against (blank b) (in_name b) (blank_no_name b) (digit_named b h)

-- a number that begins with the digit b
pub digit_begins : (b : ℕ) (bs : List ℕ) (t : Token) → digit b ≡ true → is t.symbol Name ≡ false → is t.symbol Equal ≡ false → figured t ≡ true → dotted t ≡ false → FirstByte b bs t
digit_begins b bs t h n q f d =
    let k = digit_range b h in
    record {
      dark = digit_dark b h;
      named = digit_named b h ∙ rw (n, f);
      numbered = h ∙ sym f;
      dot = rw (no_dot b (λ e. omega arith), d);
      equals = ne_eqb b 61 (λ e. omega arith) ∙ sym q;
    }

pub number_begins : (v b : ℕ) (bs l : List ℕ) → digit b ≡ true → FirstByte b bs (token (Number v) l)
unfolding figured dotted
number_begins v b bs l h = digit_begins b bs (token (Number v) l) h refl refl refl refl

pub decimal_begins : (w b : ℕ) (bs l : List ℕ) → digit b ≡ true → FirstByte b bs (token (Decimal w) (b ∷ l))
unfolding figured dotted
decimal_begins w b bs l h =
    let k = digit_range b h in
    let d = no_dot b (λ e. omega arith) in
    digit_begins b bs (token (Decimal w) (b ∷ l)) h refl refl (rw d) (rw d)

-- one that begins with its point
pub dot_begins : (w : ℕ) (bs l : List ℕ) → digit (ahead bs) ≡ true → FirstByte 46 bs (token (Decimal w) (46 ∷ l))
unfolding figured dotted blank in_name letter digit
dot_begins w bs l h =
    record {
      dark = refl;
      named = refl;
      numbered = refl;
      dot = h;
      equals = refl;
    }

pub digit_no_letter : (b : ℕ) → digit b ≡ true → letter b ≡ false
digit_no_letter b h = impossible (letter b) (λ e. let l = letter_low b e in let k = digit_range b h in omega arith)

-- ---- how a spelling starts

pub record Starts (w : List ℕ) (t : Token) : Type 0 where
  pub first : ℕ
  pub rest : List ℕ
  pub same : w ≡ first ∷ rest
  pub begins : (zs : List ℕ) → FirstByte first (rest ++ zs) t

abbrev so : {w : List ℕ} {t : Token} (b : ℕ) (bs : List ℕ) → w ≡ b ∷ bs → blank b ≡ false → in_name b ≡ (is t.symbol Name || figured t) → digit b ≡ figured t → eqb b 46 ≡ false → dotted t ≡ false → eqb b 61 ≡ is t.symbol Equal → Starts w t
so b bs e d n m p o q = record { first = b; rest = bs; same = e; begins = λ zs. record { dark = d; named = n; numbered = m; dot = rw (p, o); equals = q } }

starts_other : (s : Symbol) → is s Name ≡ false → is s (Number 0) ≡ false → is s (Decimal 0) ≡ false → Starts (spell s []) (token s [])
unfolding spell word_for sign_for figured dotted blank in_name letter digit
starts_other Begin h k j = so 39 (bytes "begin'") refl refl refl refl refl refl refl
starts_other End h k j = so 39 (bytes "end'") refl refl refl refl refl refl refl
starts_other If h k j = so 39 (bytes "if'") refl refl refl refl refl refl refl
starts_other Then h k j = so 39 (bytes "then'") refl refl refl refl refl refl refl
starts_other Else h k j = so 39 (bytes "else'") refl refl refl refl refl refl refl
starts_other For h k j = so 39 (bytes "for'") refl refl refl refl refl refl refl
starts_other Do h k j = so 39 (bytes "do'") refl refl refl refl refl refl refl
starts_other Step h k j = so 39 (bytes "step'") refl refl refl refl refl refl refl
starts_other Until h k j = so 39 (bytes "until'") refl refl refl refl refl refl refl
starts_other While h k j = so 39 (bytes "while'") refl refl refl refl refl refl refl
starts_other Comment h k j = so 39 (bytes "comment'") refl refl refl refl refl refl refl
starts_other Integer h k j = so 39 (bytes "integer'") refl refl refl refl refl refl refl
starts_other Boolean h k j = so 39 (bytes "Boolean'") refl refl refl refl refl refl refl
starts_other Procedure h k j = so 39 (bytes "procedure'") refl refl refl refl refl refl refl
starts_other Value h k j = so 39 (bytes "value'") refl refl refl refl refl refl refl
starts_other True h k j = so 39 (bytes "true'") refl refl refl refl refl refl refl
starts_other False h k j = so 39 (bytes "false'") refl refl refl refl refl refl refl
starts_other And h k j = so 39 (bytes "and'") refl refl refl refl refl refl refl
starts_other Or h k j = so 39 (bytes "or'") refl refl refl refl refl refl refl
starts_other Not h k j = so 39 (bytes "not'") refl refl refl refl refl refl refl
starts_other Impl h k j = so 39 (bytes "impl'") refl refl refl refl refl refl refl
starts_other Equiv h k j = so 39 (bytes "equiv'") refl refl refl refl refl refl refl
starts_other Plus h k j = so 43 ([]) refl refl refl refl refl refl refl
starts_other Minus h k j = so 45 ([]) refl refl refl refl refl refl refl
starts_other Times h k j = so 42 ([]) refl refl refl refl refl refl refl
starts_other Divide h k j = so 37 ([]) refl refl refl refl refl refl refl
starts_other Less h k j = so 60 ([]) refl refl refl refl refl refl refl
starts_other LessEqual h k j = so 60 (61 ∷ []) refl refl refl refl refl refl refl
starts_other Equal h k j = so 61 ([]) refl refl refl refl refl refl refl
starts_other GreaterEqual h k j = so 62 (61 ∷ []) refl refl refl refl refl refl refl
starts_other Greater h k j = so 62 ([]) refl refl refl refl refl refl refl
starts_other NotEqual h k j = so 35 ([]) refl refl refl refl refl refl refl
starts_other Comma h k j = so 44 ([]) refl refl refl refl refl refl refl
starts_other Colon h k j = so 58 ([]) refl refl refl refl refl refl refl
starts_other Becomes h k j = so 58 (61 ∷ []) refl refl refl refl refl refl refl
starts_other Semicolon h k j = so 59 ([]) refl refl refl refl refl refl refl
starts_other Open h k j = so 40 ([]) refl refl refl refl refl refl refl
starts_other Close h k j = so 41 ([]) refl refl refl refl refl refl refl
starts_other Name h k j = absurd (yes_no h)
starts_other (Number v) h k j = absurd (yes_no k)
starts_other Real h k j = so 39 (bytes "real'") refl refl refl refl refl refl refl
starts_other Slash h k j = so 47 ([]) refl refl refl refl refl refl refl
starts_other (Decimal w) h k j = absurd (yes_no j)

starts_decimal : (w : ℕ) (l ds es : List ℕ) → l ≡ ds ++ (46 ∷ es) → All digit ds → All digit es → 0 < length es → Starts l (token (Decimal w) l)
starts_decimal w l [] [] e a c o = absurd (omega (arith, o))
starts_decimal w l [] (x ∷ es) e a c o =
    record { first = 46; rest = x ∷ es; same = e; begins = λ zs. subst (λ (m : List ℕ). FirstByte 46 (x ∷ es ++ zs) (token (Decimal w) m)) (sym e) (dot_begins w (x ∷ es ++ zs) (x ∷ es) (ap digit (ahead_here x (es ++ zs) (digit_dark x c.0)) ∙ c.0)) }
starts_decimal w l (d ∷ ds) es e a c o =
    record { first = d; rest = ds ++ (46 ∷ es); same = e; begins = λ zs. subst (λ (m : List ℕ). FirstByte d ((ds ++ (46 ∷ es)) ++ zs) (token (Decimal w) m)) (sym e) (decimal_begins w d ((ds ++ (46 ∷ es)) ++ zs) (ds ++ (46 ∷ es)) a.0) }

pub starts : (s : Symbol) (l : List ℕ) → Proper s l → Starts (spell s l) (token s l)
unfolding spell
starts s l (S.name {b = b} {bs = bs} h f k) = record { first = b; rest = bs; same = refl; begins = λ zs. letter_begins b (bs ++ zs) (b ∷ bs) h }
starts s l (S.number {v = v} {b = b} {bs = bs} h f e k) = record { first = b; rest = bs; same = refl; begins = λ zs. number_begins v b (bs ++ zs) (b ∷ bs) h }
starts s l (S.decimal {w = w} ds es e a c o n q) = starts_decimal w l ds es e a c o
starts s l (S.other h k j) = starts_other s h k j

-- ---- what is read at its start

-- s, which begins with b and goes on with bs: zs follows
pub record Reads (b : ℕ) (bs zs : List ℕ) (s : Symbol) : Type 0 where
  pub beyond : ℕ
  pub lexes : lexeme b (bs ++ zs) ≡ Is s beyond
  pub onward : (n : ℕ) (c : Context) (p : ℕ) → scan_from n c p beyond (bs ++ zs) ≡ scan_from n c (p + length bs) 0 zs

drop_all : (bs zs : List ℕ) → drop (length bs) (bs ++ zs) ≡ zs
drop_all [] zs = refl
drop_all (b ∷ bs) zs = drop_all bs zs

-- all of it, and no byte more
just : (b : ℕ) (bs zs : List ℕ) (s : Symbol) → lexeme b (bs ++ zs) ≡ Is s (length bs) → Reads b bs zs s
just b bs zs s e = record { beyond = length bs; lexes = e; onward = λ n c p. skip n c p (length bs) (bs ++ zs) ∙ ap (scan_from n c (p + length bs) 0) (drop_all bs zs) }

-- and the blanks behind it
more : (b : ℕ) (bs zs : List ℕ) (s : Symbol) → lexeme b (bs ++ zs) ≡ Is s (length bs + gap zs) → Reads b bs zs s
more b bs zs s e = record {
  beyond = length bs + gap zs;
  lexes = e;
  onward = λ n c p.
      skip n c p (length bs + gap zs) (bs ++ zs)
      ∙ ap (scan_from n c (p + (length bs + gap zs)) 0) (drop-append-add bs zs (gap zs))
      ∙ ap (λ (q : ℕ). scan_from n c q 0 (drop (gap zs) zs)) (let z : p + (length bs + gap zs) ≡ p + length bs + gap zs = omega arith in z)
      ∙ sym (skip n c (p + length bs) (gap zs) zs)
      ∙ gap_passed n c (p + length bs) zs;
}

lexes_other : (s : Symbol) (h : is s Name ≡ false) (k : is s (Number 0) ≡ false) (j : is s (Decimal 0) ≡ false) (zs : List ℕ) → blocks s zs ≡ false
    → lexeme (starts_other s h k j).first ((starts_other s h k j).rest ++ zs) ≡ Is s (length (starts_other s h k j).rest)
unfolding starts_other lexeme letter digit sign blocks spelled same_name equal folded followed gap blank
lexes_other Begin h k j zs a = word_closed (bytes "begin") Begin ((refl, (refl, (refl, (refl, (refl, tt)))))) refl zs
lexes_other End h k j zs a = word_closed (bytes "end") End ((refl, (refl, (refl, tt)))) refl zs
lexes_other If h k j zs a = word_closed (bytes "if") If ((refl, (refl, tt))) refl zs
lexes_other Then h k j zs a = word_closed (bytes "then") Then ((refl, (refl, (refl, (refl, tt))))) refl zs
lexes_other Else h k j zs a = word_closed (bytes "else") Else ((refl, (refl, (refl, (refl, tt))))) refl zs
lexes_other For h k j zs a = word_closed (bytes "for") For ((refl, (refl, (refl, tt)))) refl zs
lexes_other Do h k j zs a = word_closed (bytes "do") Do ((refl, (refl, tt))) refl zs
lexes_other Step h k j zs a = word_closed (bytes "step") Step ((refl, (refl, (refl, (refl, tt))))) refl zs
lexes_other Until h k j zs a = word_closed (bytes "until") Until ((refl, (refl, (refl, (refl, (refl, tt)))))) refl zs
lexes_other While h k j zs a = word_closed (bytes "while") While ((refl, (refl, (refl, (refl, (refl, tt)))))) refl zs
lexes_other Comment h k j zs a = word_closed (bytes "comment") Comment ((refl, (refl, (refl, (refl, (refl, (refl, (refl, tt)))))))) refl zs
lexes_other Integer h k j zs a = word_closed (bytes "integer") Integer ((refl, (refl, (refl, (refl, (refl, (refl, (refl, tt)))))))) refl zs
lexes_other Boolean h k j zs a = word_closed (bytes "Boolean") Boolean ((refl, (refl, (refl, (refl, (refl, (refl, (refl, tt)))))))) refl zs
lexes_other Procedure h k j zs a = word_closed (bytes "procedure") Procedure ((refl, (refl, (refl, (refl, (refl, (refl, (refl, (refl, (refl, tt)))))))))) refl zs
lexes_other Value h k j zs a = word_closed (bytes "value") Value ((refl, (refl, (refl, (refl, (refl, tt)))))) refl zs
lexes_other True h k j zs a = word_closed (bytes "true") True ((refl, (refl, (refl, (refl, tt))))) refl zs
lexes_other False h k j zs a = word_closed (bytes "false") False ((refl, (refl, (refl, (refl, (refl, tt)))))) refl zs
lexes_other And h k j zs a = word_closed (bytes "and") And ((refl, (refl, (refl, tt)))) refl zs
lexes_other Or h k j zs a = word_closed (bytes "or") Or ((refl, (refl, tt))) refl zs
lexes_other Not h k j zs a = word_closed (bytes "not") Not ((refl, (refl, (refl, tt)))) refl zs
lexes_other Impl h k j zs a = word_closed (bytes "impl") Impl ((refl, (refl, (refl, (refl, tt))))) refl zs
lexes_other Equiv h k j zs a = word_closed (bytes "equiv") Equiv ((refl, (refl, (refl, (refl, (refl, tt)))))) refl zs
lexes_other Plus h k j zs a = refl
lexes_other Minus h k j zs a = refl
lexes_other Times h k j zs a = refl
lexes_other Divide h k j zs a = refl
lexes_other Less h k j zs a = rw (followed_ahead 61 zs, a)
lexes_other LessEqual h k j zs a = refl
lexes_other Equal h k j zs a = refl
lexes_other GreaterEqual h k j zs a = refl
lexes_other Greater h k j zs a = rw (followed_ahead 61 zs, a)
lexes_other NotEqual h k j zs a = refl
lexes_other Comma h k j zs a = refl
lexes_other Colon h k j zs a = rw (followed_ahead 61 zs, a)
lexes_other Becomes h k j zs a = refl
lexes_other Semicolon h k j zs a = refl
lexes_other Open h k j zs a = refl
lexes_other Close h k j zs a = refl
lexes_other Name h k j zs a = absurd (yes_no h)
lexes_other (Number v) h k j zs a = absurd (yes_no k)
lexes_other Real h k j zs a = word_closed (bytes "real") Real ((refl, (refl, (refl, (refl, tt))))) refl zs
lexes_other Slash h k j zs a = refl
lexes_other (Decimal w) h k j zs a = absurd (yes_no j)

module _ (b : ℕ) (bs zs : List ℕ) where
  pub reads_name : letter b ≡ true → All in_name bs → length bs < 32 → in_name (ahead zs) ≡ false → Reads b bs zs Name
  unfolding lexeme name sized these
  reads_name h f k a =
      let l : length bs < 32 = k in
      let m : suc (length bs) ≤ 32 = omega arith in
      more b bs zs Name (rw (h, letter_named b h, these_all in_name blank_no_name bs zs f a, le-ltb 32 (suc (length bs)) m, reach_all in_name blank_no_name bs zs f a))

  reads_number : (v : ℕ) → digit b ≡ true → All digit bs → value_from 0 (b ∷ bs) ≡ v → v ≤ 2147483647 → digit (ahead zs) ≡ false → dots zs ≡ false → Reads b bs zs (Number v)
  unfolding lexeme number valued with_point these
  reads_number v h f e k a d =
      more b bs zs (Number v)
      (rw (digit_no_letter b h, h, these_all digit blank_no_digit bs zs f a, e, le-ltb 2147483647 v k, reach_all digit blank_no_digit bs zs f a, drop-append-add bs zs (gap zs), dots_none zs d))

or_left : (t u : Bool) → (t || u) ≡ false → t ≡ false
or_left true u h = absurd (yes_no h)
or_left false u h = refl

or_right : (t u : Bool) → (t || u) ≡ false → u ≡ false
or_right true u h = absurd (yes_no h)
or_right false u h = h

-- the digits of a number with a point, and what follows it
record Parts (ds es zs : List ℕ) : Type 0 where
  front : these digit (ds ++ (46 ∷ (es ++ zs))) ≡ ds
  reached : reach digit (ds ++ (46 ∷ (es ++ zs))) ≡ length ds
  left : drop (length ds) (ds ++ (46 ∷ (es ++ zs))) ≡ 46 ∷ (es ++ zs)
  behind : these digit (es ++ zs) ≡ es
  passed : reach digit (es ++ zs) ≡ length es + gap zs

parts : (ds es zs : List ℕ) → All digit ds → All digit es → digit (ahead zs) ≡ false → Parts ds es zs
unfolding gap ahead blank digit
parts ds es zs a c z =
    let r = reach_all digit blank_no_digit ds (46 ∷ (es ++ zs)) a refl in
    record {
      front = these_all digit blank_no_digit ds (46 ∷ (es ++ zs)) a refl;
      reached = omega (arith, r);
      left = drop_all ds (46 ∷ (es ++ zs));
      behind = these_all digit blank_no_digit es zs c z;
      passed = reach_all digit blank_no_digit es zs c z;
    }

-- at most 15 digits with a point make the symbol
pointed_is : (w k : ℕ) (plain : Lexeme) (ds es : List ℕ) → 0 < length es → length (ds ++ es) ≤ 15 → packed (value_from 0 (ds ++ es)) (length es) ≡ w → with_point plain ds es k ≡ Is (Decimal w) k
unfolding with_point pointed
pointed_is w k plain ds [] o n q = absurd (omega (arith, o))
pointed_is w k plain ds (x ∷ es) o n q = rw (le-ltb 15 (length (ds ++ (x ∷ es))) n) (ap (λ (v : ℕ). Is (Decimal v) k) q)

lexeme_digit : (b : ℕ) (bs : List ℕ) → digit b ≡ true → lexeme b bs ≡ number b bs
unfolding lexeme
lexeme_digit b bs h = rw (digit_no_letter b h, h)

reads_decimal : (w : ℕ) (l ds es : List ℕ) (e : l ≡ ds ++ (46 ∷ es)) (a : All digit ds) (c : All digit es) (o : 0 < length es) → length (ds ++ es) ≤ 15 → packed (value_from 0 (ds ++ es)) (length es) ≡ w → (zs : List ℕ) → digit (ahead zs) ≡ false
    → Reads (starts_decimal w l ds es e a c o).first (starts_decimal w l ds es e a c o).rest zs (Decimal w)
unfolding starts_decimal point number decimals
reads_decimal w l [] [] e a c o n q zs z = absurd (omega (arith, o))
reads_decimal w l [] (x ∷ es) e a c o n q zs z =
    let p = parts [] (x ∷ es) zs a c z in
    more 46 (x ∷ es) zs (Decimal w) (lexeme_dot 46 (x ∷ es ++ zs) refl ∙ rw (p.behind, p.passed) (pointed_is w (length (x ∷ es) + gap zs) Nothing [] (x ∷ es) o n q))
reads_decimal w l (d ∷ ds) es e a c o n q zs z =
    let p = parts ds es zs a.1 c z in
    let y = append_assoc ds (46 ∷ es) zs in
    let k : length ds + 1 + (length es + gap zs) ≡ length (ds ++ (46 ∷ es)) + gap zs = omega (arith, length-append ds (46 ∷ es)) in
    let f = digit_first d (ds ++ (46 ∷ (es ++ zs))) a.0 ∙ ap (λ (m : List ℕ). d ∷ m) p.front in
    more d (ds ++ (46 ∷ es)) zs (Decimal w) (lexeme_digit d ((ds ++ (46 ∷ es)) ++ zs) a.0 ∙ rw (y, f, p.reached, p.left, p.behind, p.passed, k)
    (pointed_is w (length (ds ++ (46 ∷ es)) + gap zs) (valued (value_from 0 (d ∷ ds)) (length ds)) (d ∷ ds) es o n q))

-- the symbol is read where what follows does not go on with it
pub reads : (s : Symbol) (l : List ℕ) (h : Proper s l) (zs : List ℕ) → blocks s zs ≡ false → Reads (starts s l h).first (starts s l h).rest zs s
unfolding starts blocks
reads s l (S.name {b = b} {bs = bs} h f k) zs a = reads_name b bs zs h f k (or_left (in_name (ahead zs)) false (or_left (in_name (ahead zs) || false) false (or_left (in_name (ahead zs) || false || false) false a)))
reads s l (S.number {v = v} {b = b} {bs = bs} h f e k) zs a =
    let x = or_left (digit (ahead zs) || dots zs) false (or_left (digit (ahead zs) || dots zs || false) false a) in
    reads_number b bs zs v h f e k (or_left (digit (ahead zs)) (dots zs) x) (or_right (digit (ahead zs)) (dots zs) x)
reads s l (S.decimal {w = w} ds es e y c o n q) zs a = reads_decimal w l ds es e y c o n q zs (or_left (digit (ahead zs)) false a)
reads s l (S.other h k j) zs a = just (starts_other s h k j).first (starts_other s h k j).rest zs s (lexes_other s h k j zs a)

-- ---- its letters are read off

decimal_back : (l ds es zs : List ℕ) → l ≡ ds ++ (46 ∷ es) → All digit ds → All digit es → digit (ahead zs) ≡ false → with_decimals (l ++ zs) ≡ l
unfolding with_decimals decimals
decimal_back l ds es zs e a c z =
    let p = parts ds es zs a c z in
    let y : l ++ zs ≡ ds ++ (46 ∷ (es ++ zs)) = ap (λ (m : List ℕ). m ++ zs) e ∙ append_assoc ds (46 ∷ es) zs in
    rw (y, p.front, p.reached, p.left, p.behind) (sym e)

pub letters_back : (s : Symbol) (l : List ℕ) → Proper s l → (zs : List ℕ) → blocks s zs ≡ false → read_off s (spell s l ++ zs) ≡ l
unfolding read_off spell blocks
letters_back s l (S.name {b = b} {bs = bs} h f k) zs a = these_all in_name blank_no_name (b ∷ bs) zs (letter_named b h, f) (or_left (in_name (ahead zs)) false (or_left (in_name (ahead zs) || false) false (or_left (in_name (ahead zs) || false || false) false a)))
letters_back s l (S.number {b = b} {bs = bs} h f e k) zs a = these_all digit blank_no_digit (b ∷ bs) zs (h, f) (or_left (digit (ahead zs)) (dots zs) (or_left (digit (ahead zs) || dots zs) false (or_left (digit (ahead zs) || dots zs || false) false a)))
letters_back s l (S.decimal {w = w} ds es e y c o n q) zs a = decimal_back l ds es zs e y c (or_left (digit (ahead zs)) false a)
letters_back s l (S.other h k j) zs a = rw (h, k, j)
