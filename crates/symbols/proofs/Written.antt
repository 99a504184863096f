-- Symbols spelled out behind separators of blanks scan back to themselves, at the running sum of the lengths, with their letters.
use mathlib.Core.Path.{◌≡◌, refl, sym, ap, ◌∙◌}
use mathlib.Core.Bool.{Bool, true, false, cond, not}
use mathlib.Core.List.{List, [], ◌∷◌, ◌++◌, map, append-nil}
use mathlib.Core.Option.{none}
use Prim.Native.Nat.{ℕ, zero, suc, ◌+◌, ◌≤◌}
use native.Mathlib.Omega.{arith}
use lib.ListN.{length, drop}
use lib.Seq.{drop-drop}
use Rattle.symbols.specs.Names.{blank}
use Rattle.symbols.specs.Symbols.{is}
use Rattle.symbols.specs.Scan.{lexeme, behind, counted, judged, turn, Found, Scan, kept, scan_from, scan}
use Rattle.symbols.specs.declared.Context.{Context}
use Rattle.symbols.specs.declared.Context.TheVariants.{Opens, Plain, Remark}
use Rattle.symbols.specs.declared.Lexeme.TheVariants.{Is}
use Rattle.symbols.specs.declared.Turn.TheVariants.{Keep}
use Rattle.symbols.specs.declared.Symbol.{Symbol}
use Rattle.symbols.specs.declared.Symbol.TheVariants.{Comment, Comma}
use Rattle.symbols.specs.Spelling.{Token, All, AllProper, spell, joins, admitted, Linked, Sound, Piece, tokens_of, Blanks, spelling, text, placed, read_off, token_at, tokens}
use Rattle.symbols.proofs.SpelledBytes.{at_turn, blanks_passed}
use Rattle.symbols.proofs.SpelledSymbols.{yes_no, blocks, blocks_joins, blocks_end, blocks_behind, starts, reads, letters_back}

abbrev whole : List Found → Scan
whole l = record { found = l; refused = none }

-- ---- a symbol that is admitted is kept

judged_admitted : (n : ℕ) (c : Context) (s : Symbol) (k : ℕ) (bs : List ℕ) → admitted c s ≡ true → judged (suc n) c (Is s k) bs ≡ Keep s (behind s) k
unfolding judged admitted counted
judged_admitted n Opens s k bs h = go (is s Comment) h
  where
    go : (t : Bool) → not t ≡ true → cond t (Rattle.symbols.specs.Scan.note k bs) (Keep s (behind s) k) ≡ Keep s (behind s) k
    go true e = absurd (yes_no (sym e))
    go false e = refl
judged_admitted n Plain s k bs h = refl
judged_admitted n Remark s k bs h = rw h

pub keeps : (n : ℕ) (c : Context) (p b : ℕ) (bs : List ℕ) (s : Symbol) (k : ℕ) → blank b ≡ false → lexeme b bs ≡ Is s k → admitted c s ≡ true
    → scan_from (suc n) c p 0 (b ∷ bs) ≡ kept s p (scan_from n (behind s) (p + 1) k bs)
unfolding turn
keeps n c p b bs s k d e a = at_turn (suc n) c p b bs (Keep s (behind s) k) (rw (d, e) (judged_admitted n c s k bs a))

-- ---- what stands behind a symbol does not go on with it

pub drop_all : (bs zs : List ℕ) → drop (length bs) (bs ++ zs) ≡ zs
drop_all [] zs = refl
drop_all (b ∷ bs) zs = drop_all bs zs

module _ (e : List ℕ) (eb : All blank e) where
  pub free : (s : Symbol) (l : List Piece) → Blanks l → AllProper (tokens_of l) → Linked s (tokens_of l) → blocks s (text l e) ≡ false
  unfolding text spelling
  free s [] bl pr li = blocks_end s e eb
  free s (x ∷ l) bl pr li =
      let t = x.token.symbol in
      let st = starts t x.token.letters pr.0 in
      blocks_behind s x.separator (spell t x.token.letters ++ text l e) bl.0
      ∙ ap (λ (w : List ℕ). blocks s (w ++ text l e)) st.same
      ∙ blocks_joins s x.token st.first (st.rest ++ text l e) (st.begins (text l e))
      ∙ li.0.apart

  -- ---- the scan of a text

  at_end : (n : ℕ) (c : Context) (p : ℕ) → scan_from n c p 0 e ≡ whole []
  unfolding scan_from
  at_end n c p = ap (scan_from n c p 0) (sym (append-nil e)) ∙ blanks_passed n c p e [] eb

  scanned : (l : List Piece) (s : Symbol) (n p : ℕ) → Blanks l → AllProper (tokens_of l) → Linked s (tokens_of l) → length l ≤ n
      → scan_from n (behind s) p 0 (text l e) ≡ whole (placed p l)
  unfolding text placed spelling
  scanned [] s n p bl pr li k = at_end n (behind s) p
  scanned (x ∷ l) s zero p bl pr li k = absurd (omega arith)
  scanned (x ∷ l) s (suc n) p bl pr li k =
      let t = x.token.symbol in
      let st = starts t x.token.letters pr.0 in
      let Z = text l e in
      let r = reads t x.token.letters pr.0 Z (free t l bl.1 pr.1 li.1) in
      let q = p + length x.separator in
      let z : q + 1 + length st.rest ≡ q + length (spell t x.token.letters) = omega (arith, ap length st.same) in
      blanks_passed (suc n) (behind s) p x.separator (spell t x.token.letters ++ Z) bl.0
      ∙ ap (λ (w : List ℕ). scan_from (suc n) (behind s) q 0 (w ++ Z)) st.same
      ∙ keeps n (behind s) q st.first (st.rest ++ Z) t r.beyond (st.begins Z).dark r.lexes li.0.counts
      ∙ ap (kept t q) (r.onward n (behind t) (q + 1) ∙ ap (λ (m : ℕ). scan_from n (behind t) m 0 Z) z ∙ scanned l t n (q + length (spell t x.token.letters)) bl.1 pr.1 li.1 (omega arith))

  -- ---- the letters

  lettered : (l : List Piece) (S : List ℕ) (p : ℕ) → Blanks l → AllProper (tokens_of l) → Sound (tokens_of l) → drop p S ≡ text l e → map (token_at S) (placed p l) ≡ tokens_of l
  unfolding text placed spelling
  lettered [] S p bl pr so d = refl
  lettered (x ∷ l) S p bl pr so d =
      let t = x.token.symbol in
      let w = spell t x.token.letters in
      let Z = text l e in
      let q = p + length x.separator in
      let here : drop q S ≡ w ++ Z = sym (drop-drop (length x.separator) p S) ∙ ap (drop (length x.separator)) d ∙ drop_all x.separator (w ++ Z) in
      let there : drop (q + length w) S ≡ Z = sym (drop-drop (length w) q S) ∙ ap (drop (length w)) here ∙ drop_all w Z in
      let back : read_off t (drop q S) ≡ x.token.letters = ap (read_off t) here ∙ letters_back t x.token.letters pr.0 Z (free t l bl.1 pr.1 so) in
      both (λ (m : List ℕ) (r : List Token). record { symbol = t; letters = m } ∷ r) back (lettered l S (q + length w) bl.1 pr.1 (sound_rest t l so) there)
    where
      sound_rest : (s : Symbol) (l : List Piece) → Linked s (tokens_of l) → Sound (tokens_of l)
      sound_rest s [] h = tt
      sound_rest s (y ∷ l) h = h.1

      both : {A B C : Type 0} (f : A → B → C) {a a' : A} {b b' : B} → a ≡ a' → b ≡ b' → f a b ≡ f a' b'
      both f {a} {a'} {b} {b'} x y = ap (λ z. f z b) x ∙ ap (f a') y

-- the first symbol of a source stands as behind a comma: in no note and no remark, and joined with nothing
first_linked : (l : List Token) → Sound l → Linked Comma l
unfolding joins admitted behind
first_linked [] h = tt
first_linked (t ∷ l) h = (record { apart = refl; counts = refl }, h)

-- THE LAW: a text scans to its symbols, at the running sum of the lengths, and to nothing else
pub scan_text : (n : ℕ) (l : List Piece) (e : List ℕ) → Blanks l → All blank e → AllProper (tokens_of l) → Sound (tokens_of l) → length l ≤ n
    → scan n (text l e) ≡ record { found = placed 0 l; refused = none }
unfolding scan behind
scan_text n l e bl eb pr so k = scanned e eb l Comma n 0 bl pr (first_linked (tokens_of l) so) k

-- and to its letters
pub tokens_text : (n : ℕ) (l : List Piece) (e : List ℕ) → Blanks l → All blank e → AllProper (tokens_of l) → Sound (tokens_of l) → length l ≤ n
    → tokens n (text l e) ≡ tokens_of l
tokens_text n l e bl eb pr so k =
    ap (λ (r : Scan). map (token_at (text l e)) r.found) (scan_text n l e bl eb pr so k) ∙ lettered e eb l (text l e) 0 bl pr so refl
