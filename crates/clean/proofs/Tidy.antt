-- Every page is tidy: a gap is lines and then spaces, and no byte of a symbol is a blank. So a space stands before a symbol, and an LF behind a symbol or
-- another LF; and as a program has a 'begin', the last LF stands behind a symbol.
use Prim.Native.Nat.{ℕ, zero, suc}
use mathlib.Core.Path.{◌≡◌, refl, sym, ap, subst, ◌∙◌}
use mathlib.Core.Bool.{Bool, true, false, cond, not, ◌&&◌, ◌||◌}
use mathlib.Core.List.{List, [], ◌∷◌, ◌++◌, map, append_assoc}
use native.Mathlib.Omega.{arith}
use lib.Dec.{eqb}
use lib.ListN.{replicate}
use Prim.Native.Char.{code}
use Rattle.symbols.specs.Text.{bytes}
use Rattle.symbols.specs.Names.{blank, digit, in_name}
use Rattle.symbols.specs.Symbols.{Delimiter, words, Sign, one, two, signs, is}
use Rattle.symbols.specs.Scan.{Found, scan, kinds_of}
use Rattle.symbols.specs.declared.Symbol.{Symbol}
use Rattle.symbols.proofs.Follows.{blank_no_name}
use Rattle.symbols.proofs.Laws.{both}
use Rattle.symbols.proofs.Decimals.{all_both}
use Rattle.grammar.specs.Grammar.{program}
use Rattle.grammar.specs.Trees.{Syn, tok, yield}
use Rattle.symbols.specs.Spelling as S
use Rattle.symbols.specs.Spelling.{Token, All, Proper, AllProper, Piece, Blanks, word_for, sign_for, spell, spelling, text, token_at, tokens, dress}
use Rattle.symbols.proofs.SpelledSymbols.{yes_no, letter_named, digit_named, Starts, starts}
use Rattle.symbols.proofs.OwnSymbols.{source_proper}
use Rattle.symbols.proofs.WrittenAgain.{dress_tokens}
use Rattle.clean.specs.House.{Mark, line, symbol, laid, spaces, tight, gaps, house, page}
use Rattle.clean.specs.Tidy.{Tidy, HasNo}
use Rattle.clean.proofs.Clean.{spaces_blank, page_tokens}

-- ---- no byte of a symbol is a blank

abbrev dark : ℕ → Bool
dark b = not (blank b)

named_dark : (b : ℕ) → in_name b ≡ true → dark b ≡ true
named_dark b h = go (blank b) refl
  where
    go : (t : Bool) → blank b ≡ t → not t ≡ true
    go true e = absurd (yes_no (sym h ∙ blank_no_name b e))
    go false e = refl

digit_dark : (b : ℕ) → digit b ≡ true → dark b ≡ true
digit_dark b h = named_dark b (digit_named b h)

point_dark : dark 46 ≡ true
unfolding blank
point_dark = refl

all_of : (sort sort' : ℕ → Bool) → ((b : ℕ) → sort b ≡ true → sort' b ≡ true) → (l : List ℕ) → All sort l → All sort' l
all_of sort sort' f [] h = tt
all_of sort sort' f (b ∷ l) h = (f b h.0, all_of sort sort' f l h.1)

-- the tables of words and signs, by one test each
every_dark : List ℕ → Bool
every_dark [] = true
every_dark (b ∷ l) = dark b && every_dark l

every : (l : List ℕ) → every_dark l ≡ true → All dark l
unfolding every_dark
every [] h = tt
every (b ∷ l) h = let k = both (dark b) (every_dark l) h in (k.0, every l k.1)

dark_words : List Delimiter → Bool
dark_words [] = true
dark_words (x ∷ l) = every_dark (bytes x.spelling) && dark_words l

dark_signs : List Sign → Bool
dark_signs [] = true
dark_signs (one c t ∷ l) = dark (code c) && dark_signs l
dark_signs (two c d t ∷ l) = dark (code c) && (dark (code d) && dark_signs l)

either : (t : Bool) (a b : List ℕ) → All dark a → All dark b → All dark (cond t a b)
either true a b x y = x
either false a b x y = y

word_dark : (s : Symbol) (w : List ℕ) → All dark w → (l : List Delimiter) → dark_words l ≡ true → All dark (word_for l s w)
unfolding dark_words word_for blank
word_dark s w d [] h = d
word_dark s w d (x ∷ l) h =
    let k = both (every_dark (bytes x.spelling)) (dark_words l) h in
    either (is x.symbol s) _ _ (refl, closed (bytes x.spelling) (every (bytes x.spelling) k.0)) (word_dark s w d l k.1)
  where
    closed : (v : List ℕ) → All dark v → All dark (v ++ (39 ∷ []))
    closed [] k = (refl, tt)
    closed (b ∷ v) k = (k.0, closed v k.1)

sign_dark : (s : Symbol) (l : List Sign) → dark_signs l ≡ true → All dark (sign_for l s)
unfolding dark_signs sign_for
sign_dark s [] h = tt
sign_dark s (one c t ∷ l) h =
    let k = both (dark (code c)) (dark_signs l) h in
    either (is t s) _ _ (k.0, tt) (sign_dark s l k.1)
sign_dark s (two c d t ∷ l) h =
    let k = both (dark (code c)) (dark (code d) && dark_signs l) h in
    let m = both (dark (code d)) (dark_signs l) k.1 in
    either (is t s) _ _ (k.0, (m.0, tt)) (sign_dark s l m.1)

table_dark : (s : Symbol) → All dark (word_for words s (sign_for signs s))
unfolding dark_words dark_signs every_dark blank
table_dark s = word_dark s (sign_for signs s) (sign_dark s signs refl) words refl

spelled_dark : (s : Symbol) (l : List ℕ) → Proper s l → All dark (spell s l)
unfolding spell
spelled_dark s l (S.name {b = b} {bs = bs} h f k) = (named_dark b (letter_named b h), all_of in_name dark named_dark bs f)
spelled_dark s l (S.number {b = b} {bs = bs} h f e k) = (digit_dark b h, all_of digit dark digit_dark bs f)
spelled_dark s l (S.decimal ds es e a c o n q) = subst (All dark) (sym e) (all_both dark ds (46 ∷ es) (all_of digit dark digit_dark ds a) (point_dark, all_of digit dark digit_dark es c))
spelled_dark s l (S.other h k j) = rw (h, k, j) (table_dark s)

-- ---- which byte may stand behind which: no tab, no CR, no LF behind a space

fair : ℕ → ℕ → Bool
fair a b = not (eqb b 9 || eqb b 13 || (eqb b 10 && eqb a 32))

abbrev Neat : ℕ → List ℕ → Type 0
Neat a [] = Unit {0}
Neat a (b ∷ bs) = (fair a b ≡ true) × Neat b bs

abbrev NoSpace : ℕ → Type 0
NoSpace a = eqb a 32 ≡ false

record Seen (b : ℕ) : Type 0 where
  no_space : eqb b 32 ≡ false
  no_tab : eqb b 9 ≡ false
  no_return : eqb b 13 ≡ false
  no_feed : eqb b 10 ≡ false

seen : (b : ℕ) → dark b ≡ true → Seen b
unfolding blank
seen b h = go (eqb b 32) (eqb b 9) (eqb b 13) (eqb b 10) refl refl refl refl h
  where
    go : (t u v w : Bool) → eqb b 32 ≡ t → eqb b 9 ≡ u → eqb b 13 ≡ v → eqb b 10 ≡ w → not (t || u || v || w) ≡ true → Seen b
    go true u v w p q r s k = absurd (yes_no (sym k))
    go false true v w p q r s k = absurd (yes_no (sym k))
    go false false true w p q r s k = absurd (yes_no (sym k))
    go false false false true p q r s k = absurd (yes_no (sym k))
    go false false false false p q r s k = record { no_space = p; no_tab = q; no_return = r; no_feed = s }

dark_fair : (a b : ℕ) → dark b ≡ true → fair a b ≡ true
unfolding fair
dark_fair a b h = let s = seen b h in rw (s.no_tab, s.no_return, s.no_feed)

feed_fair : (a : ℕ) → NoSpace a → fair a 10 ≡ true
unfolding fair
feed_fair a h = rw h

-- ---- a gap: lines, and then spaces

record Gap (g : List ℕ) : Type 0 where
  blanks : All blank g
  neat : (a : ℕ) → NoSpace a → Neat a g

abbrev Gaps : List (List ℕ) → Type 0
Gaps [] = Unit {0}
Gaps (g ∷ gs) = Gap g × Gaps gs

spaces_neat : (v a : ℕ) → Neat a (spaces v)
unfolding fair
spaces_neat zero a = tt
spaces_neat (suc v) a = (refl, (refl, spaces_neat v 32))

lines_gap : (n v : ℕ) → Gap (replicate n 10 ++ spaces v)
unfolding blank
lines_gap n v = record { blanks = blanks n; neat = neat n }
  where
    blanks : (n : ℕ) → All blank (replicate n 10 ++ spaces v)
    blanks zero = spaces_blank v
    blanks (suc n) = (refl, blanks n)

    neat : (n a : ℕ) → NoSpace a → Neat a (replicate n 10 ++ spaces v)
    neat zero a h = spaces_neat v a
    neat (suc n) a h = (feed_fair a h, neat n 10 refl)

space_gap : (t : Bool) → Gap (cond t [] (32 ∷ []))
unfolding fair blank
space_gap true = record { blanks = tt; neat = λ a h. tt }
space_gap false = record { blanks = (refl, tt); neat = λ a h. (refl, tt) }

gaps_are : (a b n v : ℕ) (l : List Mark) → Gaps (gaps a b (replicate n 10) v l)
unfolding gaps
gaps_are a b n v [] = tt
gaps_are a b n v (line w ∷ l) = gaps_are a b (suc n) w l
gaps_are a b zero v (symbol k ∷ l) = (space_gap (tight a b k), gaps_are b k 0 v l)
gaps_are a b (suc n) v (symbol k ∷ l) = (lines_gap (suc n) v, gaps_are b k 0 v l)

house_gaps : (t : Syn program) → Gaps (house t)
unfolding house
house_gaps t = gaps_are 36 36 0 0 (laid 0 t)

-- ---- pieces: a gap and then a symbol

record Set (x : Piece) : Type 0 where
  gap : Gap x.separator
  starts : Starts (spelling x.token) x.token
  word : All dark (spelling x.token)

abbrev AllSet : List Piece → Type 0
AllSet [] = Unit {0}
AllSet (x ∷ l) = Set x × AllSet l

one_set : (g : List ℕ) (t : Token) → Gap g → Proper t.symbol t.letters → Set (record { separator = g; token = t })
unfolding spelling
one_set g t h p = record { gap = h; starts = starts t.symbol t.letters p; word = spelled_dark t.symbol t.letters p }

dress_set : (gs : List (List ℕ)) (l : List Token) → Gaps gs → AllProper l → AllSet (dress gs l)
unfolding dress
dress_set gs [] h p = tt
dress_set [] (t ∷ l) h p = (one_set [] t (space_gap true) p.0, dress_set [] l tt p.1)
dress_set (g ∷ gs) (t ∷ l) h p = (one_set g t h.0 p.0, dress_set gs l h.1 p.1)

set_blanks : (l : List Piece) → AllSet l → Blanks l
set_blanks [] h = tt
set_blanks (x ∷ l) h = (h.0.gap.blanks, set_blanks l h.1)

-- ---- a text of such pieces

over_word : (a : ℕ) (w zs : List ℕ) → NoSpace a → All dark w → ((c : ℕ) → NoSpace c → Neat c zs) → Neat a (w ++ zs)
over_word a [] zs n h f = f a n
over_word a (b ∷ w) zs n h f = (dark_fair a b h.0, over_word b w zs (seen b h.0).no_space h.1 f)

no_word : {b : ℕ} {bs : List ℕ} → [] ≡ b ∷ bs → ⊥
no_word e = let z : ◌≡◌ {A = ℕ} 0 1 = cc in omega arith

-- a symbol has a byte
over_symbol : (t : Token) (w zs : List ℕ) → Starts w t → All dark w → ((c : ℕ) → NoSpace c → Neat c zs) → (a : ℕ) → Neat a (w ++ zs)
over_symbol t [] zs h d f a = absurd (no_word h.same)
over_symbol t (b ∷ w) zs h d f a = (dark_fair a b d.0, over_word b w zs (seen b d.0).no_space d.1 f)

over_gap : (a : ℕ) (g zs : List ℕ) → Neat a g → ((c : ℕ) → Neat c zs) → Neat a (g ++ zs)
over_gap a [] zs h f = f a
over_gap a (b ∷ g) zs h f = (h.0, over_gap b g zs h.1 f)

text_neat : (l : List Piece) → AllSet l → (a : ℕ) → NoSpace a → Neat a (text l (10 ∷ []))
unfolding text
text_neat [] h a n = (feed_fair a n, tt)
text_neat (x ∷ l) h a n =
    let w = spelling x.token in
    let rest = text l (10 ∷ []) in
    over_gap a x.separator (w ++ rest) (h.0.gap.neat a n) (over_symbol x.token w rest h.0.starts h.0.word (text_neat l h.1))

-- ---- what is neat has no tab, no CR, and no space at a line's end

neat_has_no : (c : ℕ) → ((a b : ℕ) → fair a b ≡ true → not (eqb b c) ≡ true) → (a : ℕ) (l : List ℕ) → Neat a l → HasNo c l
neat_has_no c f a [] h = tt
neat_has_no c f a (b ∷ l) h = (f a b h.0, neat_has_no c f b l h.1)

no_tabs : (a b : ℕ) → fair a b ≡ true → not (eqb b 9) ≡ true
unfolding fair
no_tabs a b = go (eqb b 9) (eqb b 13) (eqb b 10 && eqb a 32)
  where
    go : (t u v : Bool) → not (t || u || v) ≡ true → not t ≡ true
    go true u v h = h
    go false u v h = refl

no_returns : (a b : ℕ) → fair a b ≡ true → not (eqb b 13) ≡ true
unfolding fair
no_returns a b = go (eqb b 9) (eqb b 13) (eqb b 10 && eqb a 32)
  where
    go : (t u v : Bool) → not (t || u || v) ≡ true → not u ≡ true
    go t false v h = refl
    go true true v h = h
    go false true v h = h

neat_trimmed : (a : ℕ) (q r : List ℕ) → Neat a (q ++ (32 ∷ 10 ∷ r)) → ⊥
unfolding fair
neat_trimmed a [] r h = yes_no (sym h.1.0)
neat_trimmed a (b ∷ q) r h = neat_trimmed b q r h.1

-- ---- its end

abbrev Ended : List ℕ → Type 0
Ended p = (q : List ℕ) × (b : ℕ) × (p ≡ q ++ (b ∷ 10 ∷ [])) × (blank b ≡ false)

ended_behind : (xs zs : List ℕ) → Ended zs → Ended (xs ++ zs)
ended_behind xs zs (q, b, e, d) = (xs ++ q, b, ap (λ z. xs ++ z) e ∙ sym (append_assoc xs q (b ∷ 10 ∷ [])), d)

ended_word : (b : ℕ) (w : List ℕ) → All dark (b ∷ w) → Ended ((b ∷ w) ++ (10 ∷ []))
ended_word b [] h = ([], b, refl, not_true (blank b) h.0)
  where
    not_true : (t : Bool) → not t ≡ true → t ≡ false
    not_true true e = sym e
    not_true false e = refl
ended_word b (c ∷ w) h = ended_behind (b ∷ []) ((c ∷ w) ++ (10 ∷ [])) (ended_word c w h.1)

text_ended : (x : Piece) (l : List Piece) → AllSet (x ∷ l) → Ended (text (x ∷ l) (10 ∷ []))
unfolding text
text_ended x [] h = ended_behind x.separator (spelling x.token ++ (10 ∷ [])) (last (spelling x.token) h.0.starts h.0.word)
  where
    last : (w : List ℕ) → Starts w x.token → All dark w → Ended (w ++ (10 ∷ []))
    last [] s d = absurd (no_word s.same)
    last (b ∷ w) s d = ended_word b w d
text_ended x (y ∷ l) h =
    let rest = text (y ∷ l) (10 ∷ []) in
    ended_behind x.separator (spelling x.token ++ rest) (ended_behind (spelling x.token) rest (text_ended y l h.1))

-- ---- every page

-- a program has a symbol
some_symbol : (t : Syn program) → yield t ≡ [] → ⊥
unfolding yield
some_symbol (tok s) h = no_word (sym h)

dressed_ended : (gs : List (List ℕ)) (t : Token) (l : List Token) → AllSet (dress gs (t ∷ l)) → Ended (text (dress gs (t ∷ l)) (10 ∷ []))
unfolding dress
dressed_ended [] t l h = text_ended (record { separator = []; token = t }) (dress [] l) h
dressed_ended (g ∷ gs) t l h = text_ended (record { separator = g; token = t }) (dress gs l) h

page_ended : (source : List ℕ) (fs : List Found) (t : Syn program) → yield t ≡ kinds_of fs → AllSet (dress (house t) (map (token_at source) fs))
    → Ended (text (dress (house t) (map (token_at source) fs)) (10 ∷ []))
page_ended source [] t h k = absurd (some_symbol t h)
page_ended source (f ∷ fs) t h k = dressed_ended (house t) (token_at source f) (map (token_at source) fs) k

pub tidy : (n : ℕ) (source : List ℕ) (t : Syn program) → yield t ≡ kinds_of (scan n source).found → Tidy n (page n source t)
unfolding page
tidy n source t h =
    let pieces = dress (house t) (tokens n source) in
    let set = dress_set (house t) (tokens n source) (house_gaps t) (source_proper n source) in
    let neat = text_neat pieces set 10 refl in
    record {
      bare = record {
        pieces = pieces;
        blanks = set_blanks pieces set;
        spelled = refl;
        read = page_tokens n source t ∙ sym (dress_tokens (house t) (tokens n source));
      };
      no_tab = neat_has_no 9 no_tabs 10 (page n source t) neat;
      no_return = neat_has_no 13 no_returns 10 (page n source t) neat;
      trimmed = λ q r e. neat_trimmed 10 q r (subst (λ p. Neat 10 p) e neat);
      ended = page_ended source (scan n source).found t h set;
    }
