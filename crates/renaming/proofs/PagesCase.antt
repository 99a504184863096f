-- Clean pages of two sources that differ in the case of letters alone (requests 2 and 8): the same answer, place and length, and two texts that differ in the
-- case of names' letters alone. Separators are made of the tree, words and signs of the symbol, digits have no case; only a name has letters of its own.
-- Assumes nothing.
use Rattle.std.proofs.Common.{Result, Ok}
use Prim.Native.Nat.{ℕ}
use mathlib.Core.Path.{◌≡◌, refl, sym, ap, subst, ◌∙◌}
use mathlib.Core.Bool.{Bool, true, false, cond, ◌||◌}
use mathlib.Core.List.{List, [], ◌∷◌, ◌++◌, map}
use mathlib.Core.Option.{none}
use native.Mathlib.Omega.{arith}
use lib.ListN.{length, drop}
use Rattle.answers.specs.declared.Refusal.{Refusal}
use Rattle.answers.specs.declared.Verdict.{Verdict}
use Rattle.answers.specs.declared.Verdict.TheVariants.{Accepted, Refused}
use Rattle.symbols.specs.Names.{digit, in_name, these, reach, folded, same_name}
use Rattle.symbols.specs.Symbols.{words, signs, is}
use Rattle.symbols.specs.Scan.{Found, scan, kinds_of}
use Rattle.symbols.specs.Spelling.{Token, word_for, sign_for, spell, spelling, Piece, text, with_decimals, read_off, token_at, tokens, dress}
use Rattle.symbols.specs.declared.Symbol.{Symbol}
use Rattle.symbols.specs.declared.Symbol.TheVariants.{Name, Number, Decimal}
use Rattle.symbols.proofs.LetterCase.{folded_digit, folded_length, same_folded, folded_same, same_self}
use Rattle.symbols.proofs.AnyCase.{reach_small, digits_small, decimals_small, drop_small, same_scan, letters_small}
use Rattle.grammar.proofs.Unique.{unique}
use Rattle.names.specs.Uses.{name_faults, least}
use Rattle.types.specs.Types.{type_fault}
use Rattle.reading.specs.Judging as J
use Rattle.reading.specs.Judging.{its_program}
use Rattle.reading.specs.Reading.{symbols, Grammatical, Judged}
use Rattle.clean.specs.House.{house, page}
use Rattle.clean.specs.Job.{page_of, Fits, too_long, too_short, written, Writes, refused, accepted}
use Rattle.clean.proofs.Promises.{only}
use Rattle.renaming.proofs.AnyCase.{case_means_nothing}

abbrev small : List ℕ → List ℕ
small = map folded

true_false : true ≡ false → ⊥
true_false h = let z : ◌≡◌ {A = ℕ} 0 1 = cc in omega arith

-- ---- what it is to differ in the case of names' letters alone

-- one symbol: a name in two cases; anything else letter by letter the same
pub record AlikeToken (t u : Token) : Type 0 where
  pub symbol : t.symbol ≡ u.symbol
  pub letters : same_name t.letters u.letters ≡ true
  pub others : is t.symbol Name ≡ false → t.letters ≡ u.letters

-- one separator, and one symbol
pub record AlikePiece (x y : Piece) : Type 0 where
  pub separator : x.separator ≡ y.separator
  pub token : AlikeToken x.token y.token
  pub spelled : same_name (spelling x.token) (spelling y.token) ≡ true
  pub others : is x.token.symbol Name ≡ false → spelling x.token ≡ spelling y.token

pub data AlikePieces : List Piece → List Piece → Type 0 where
  none_left : AlikePieces [] []
  both : {x y : Piece} {l m : List Piece} → AlikePiece x y → AlikePieces l m → AlikePieces (x ∷ l) (y ∷ m)

-- two texts: of such pieces, and the same end
pub record NamesAlone (a b : List ℕ) : Type 0 where
  pub pieces : List Piece
  pub pieces' : List Piece
  pub end : List ℕ
  pub first : a ≡ text pieces end
  pub second : b ≡ text pieces' end
  pub alike : AlikePieces pieces pieces'

-- ---- lists of bytes

map_append : (a b : List ℕ) → small (a ++ b) ≡ small a ++ small b
map_append [] b = refl
map_append (x ∷ a) b = ap (λ l. folded x ∷ l) (map_append a b)

same_append : (a b c d : List ℕ) → same_name a b ≡ true → same_name c d ≡ true → same_name (a ++ c) (b ++ d) ≡ true
same_append a b c d e f = folded_same (a ++ c) (b ++ d) (map_append a c ∙ rw (same_folded a b e, same_folded c d f) (sym (map_append b d)))

same_long : (a b : List ℕ) → same_name a b ≡ true → length b ≡ length a
same_long a b e = sym (folded_length b) ∙ ap length (sym (same_folded a b e)) ∙ folded_length a

-- ---- a symbol's letters, in small

decimals_of_small : (bs : List ℕ) → with_decimals (small bs) ≡ with_decimals bs
unfolding with_decimals
decimals_of_small bs = rw (digits_small bs, reach_small digit folded_digit bs, drop_small (reach digit bs) bs, decimals_small (drop (reach digit bs) bs))

others_small : (s : Symbol) → is s Name ≡ false → (bs : List ℕ) → read_off s (small bs) ≡ read_off s bs
unfolding read_off
others_small s n bs = rw (n, digits_small bs, decimals_of_small bs)

alike_letters : (t : Bool) (s : Symbol) → is s Name ≡ t → (source source' : List ℕ) → small source ≡ small source' → (p : ℕ)
    → (same_name (read_off s (drop p source)) (read_off s (drop p source')) ≡ true) × (is s Name ≡ false → read_off s (drop p source) ≡ read_off s (drop p source'))
unfolding read_off
alike_letters true s e source source' h p =
    rw e (folded_same _ _ (sym (letters_small source p) ∙ ap (λ b. these in_name (drop p b)) h ∙ letters_small source' p), λ n. absurd (true_false n))
alike_letters false s e source source' h p =
    let one : read_off s (drop p source) ≡ read_off s (drop p source') =
    sym (others_small s e (drop p source)) ∙ ap (read_off s) (sym (drop_small p source) ∙ ap (drop p) h ∙ drop_small p source') ∙ others_small s e (drop p source') in
    (rw one (same_self _), λ n. one)

-- ---- how a symbol is spelled

spelled_alike : (t u : Token) → AlikeToken t u → same_name (spelling t) (spelling u) ≡ true
unfolding spelling spell
spelled_alike t u a = rw a.symbol (go (is u.symbol Name || is u.symbol (Number 0) || is u.symbol (Decimal 0)))
  where
    go : (x : Bool) → same_name (cond x t.letters (word_for words u.symbol (sign_for signs u.symbol))) (cond x u.letters (word_for words u.symbol (sign_for signs u.symbol))) ≡ true
    go true = a.letters
    go false = same_self (word_for words u.symbol (sign_for signs u.symbol))

spelled_one : (t u : Token) → AlikeToken t u → is t.symbol Name ≡ false → spelling t ≡ spelling u
unfolding spelling
spelled_one t u a n = rw (a.symbol, a.others n)

alike_piece : (g : List ℕ) (t u : Token) → AlikeToken t u → AlikePiece (record { separator = g; token = t }) (record { separator = g; token = u })
alike_piece g t u a = record { separator = refl; token = a; spelled = spelled_alike t u a; others = spelled_one t u a }

-- ---- two sources that differ in case alone

module _ (source source' : List ℕ) (case : same_name source source' ≡ true) where
  alike_token : (f : Found) → AlikeToken (token_at source f) (token_at source' f)
  alike_token f =
      let e = alike_letters (is f.symbol Name) f.symbol refl source source' (same_folded source source' case) f.place in
      record { symbol = refl; letters = e.0; others = e.1 }

  alike_dressed : (gs : List (List ℕ)) (fs : List Found) → AlikePieces (dress gs (map (token_at source) fs)) (dress gs (map (token_at source') fs))
  unfolding dress
  alike_dressed gs [] = none_left
  alike_dressed [] (f ∷ fs) = both (alike_piece [] _ _ (alike_token f)) (alike_dressed [] fs)
  alike_dressed (g ∷ gs) (f ∷ fs) = both (alike_piece g _ _ (alike_token f)) (alike_dressed gs fs)

  -- their symbols in one layout
  alike_pieces : (gs : List (List ℕ)) → AlikePieces (dress gs (tokens symbols source)) (dress gs (tokens symbols source'))
  alike_pieces gs =
      subst (λ r. AlikePieces (dress gs (tokens symbols source)) (dress gs (map (token_at source') r.found))) (same_scan symbols source source' case)
      (alike_dressed gs (scan symbols source).found)

  one_tree : (p : Grammatical source) (p' : Grammatical source') → p.tree ≡ p'.tree
  one_tree p p' = unique p.tree p'.tree (p.keeps.spelled ∙ ap (λ r. kinds_of r.found) (same_scan symbols source source' case) ∙ sym p'.keeps.spelled)

  -- "their clean pages differ in the case of names' letters alone"
  pub pages_differ_in_names : (p : Grammatical source) (p' : Grammatical source') → NamesAlone (page_of p) (page_of p')
  unfolding page
  pages_differ_in_names p p' = record {
    pieces = dress (house p.tree) (tokens symbols source);
    pieces' = dress (house p.tree) (tokens symbols source');
    end = 10 ∷ [];
    first = refl;
    second = ap (λ t. text (dress (house t) (tokens symbols source')) (10 ∷ [])) (sym (one_tree p p'));
    alike = alike_pieces (house p.tree);
  }

same_texts : (e : List ℕ) (l m : List Piece) → AlikePieces l m → same_name (text l e) (text m e) ≡ true
unfolding text
same_texts e l m none_left = same_self e
same_texts e (x ∷ l) (y ∷ m) (both h t) =
    rw h.separator (same_append y.separator y.separator _ _ (same_self y.separator) (same_append (spelling x.token) (spelling y.token) _ _ h.spelled (same_texts e l m t)))

-- such texts have one length, and are the same letter case aside
pub same_but_case : (a b : List ℕ) → NamesAlone a b → same_name a b ≡ true
same_but_case a b h = rw (h.first, h.second) (same_texts h.end h.pieces h.pieces' h.alike)

-- ---- the job

-- a judgement that accepts is of a program without fault
pub record Taken (source : List ℕ) : Type 0 where
  pub program : Grammatical source
  pub names_right : least (name_faults (its_program program)) ≡ none
  pub types_right : type_fault (its_program program) ≡ none

refused_accepted : {r : Rattle.answers.specs.declared.Refusal.Refusal} → Refused r ≡ Accepted → ⊥
refused_accepted e = let z : ◌≡◌ {A = ℕ} 0 1 = cc in omega arith

taken : {source : List ℕ} {v : Verdict} {ws : List ℕ} → Judged source v ws → v ≡ Accepted → Taken source
taken (J.too_long h) e = absurd (refused_accepted e)
taken (J.unreadable h r k) e = absurd (refused_accepted e)
taken (J.ungrammatical s k g) e = absurd (refused_accepted e)
taken (J.too_deep s k g) e = absurd (refused_accepted e)
taken (J.misnamed p f n) e = absurd (refused_accepted e)
taken (J.mistyped p f n t) e = absurd (refused_accepted e)
taken (J.accepted p n t) e = record { program = p; names_right = n; types_right = t }

fits_alike : {a room r : List ℕ} {w : Result ℕ Refusal} (b : List ℕ) → same_name a b ≡ true → Fits a room w r → (r' : List ℕ) × Fits b room w r' × (same_name r r' ≡ true)
fits_alike {a} {room} b e (too_long h) = (room, too_long (rw (same_long a b e) h), same_self room)
fits_alike {a} {room} b e (too_short h l) = (room, too_short (rw (same_long a b e) h) (rw (same_long a b e) l), same_self room)
fits_alike {a} {room} b e (written h l) =
    let n = same_long a b e in (
      b ++ drop (length b) room,
      subst (λ k. Fits b room (Ok k) (b ++ drop (length b) room)) n (written (rw n h) (rw n l)),
      rw n (same_append a b (drop (length a) room) (drop (length a) room) e (same_self _)),
    )

-- "write has the same answer, place and length for both": and what the room holds is the same, letter case aside
pub same_writing : (source source' : List ℕ) → same_name source source' ≡ true → {room r r' : List ℕ} {w w' : Result ℕ Refusal} → Writes source room w r → Writes source' room w' r'
    → (w ≡ w') × (same_name r r' ≡ true)
same_writing source source' case {room} (refused x j) k =
    let h = only (refused x ((case_means_nothing source source' case _ _).0 j)) k in
    (h.0, rw (sym h.1) (same_self room))
same_writing source source' case {room} (accepted p n t w r f) k =
    let q = taken ((case_means_nothing source source' case _ _).0 (J.accepted p n t)) refl in
    let e = same_but_case (page_of p) (page_of q.program) (pages_differ_in_names source source' case p q.program) in
    let g = fits_alike (page_of q.program) e f in
    let h = only (accepted q.program q.names_right q.types_right w g.0 g.1) k in
    (h.0, rw (sym h.1) g.2)
