-- The pass from left to right sets down the page: before each symbol it has the gap that the layout has there, and behind it the lines are those of `lines`.
use Prim.Native.Nat.{ℕ, zero, suc, ◌+◌, ◌-◌, ◌*◌, ◌<◌}
use mathlib.Core.Path.{◌≡◌, refl, sym, ap, subst, ◌∙◌}
use mathlib.Core.Bool.{Bool, true, false, cond}
use mathlib.Core.List.{List, [], ◌∷◌, ◌++◌, map}
use native.Mathlib.Omega.{arith}
use native.Mathlib.Numerals.{add-one}
use lib.Dec.{eqb}
use lib.ListN.{length, get_or, replicate}
use borrow.Author.Tests.{eqb-true, ne_eqb}
use Rattle.symbols.specs.Symbols.{kind}
use Rattle.symbols.specs.model.Kinds.{symbol_of}
use Rattle.symbols.specs.Scan.{Found, kinds_of, places_of}
use Rattle.symbols.specs.Spelling.{text, dress, spelling, spell, word_for, sign_for, read_off, token_at}
use Rattle.clean.specs.House.{Mark, line, symbol, spaces, tight, gaps}
use Rattle.clean.specs.model.Lines.{top_level, below, base, peek, headed, lines}
use Rattle.clean.specs.model.Bytes.{spelling_at}
use Rattle.clean.specs.model.Pen.{line_of, inward_of, open_of, level_of, head_of, opened_of, passed_of, top_of, early_of, late_of, stack_after, gap_of, written_from}
use Rattle.clean.specs.declared.lines.State.{State}
use Rattle.symbols.proofs.Stored.{same_kind}

-- ---- a kind is one that does something, or none of these

pub data Told (k : ℕ) : Type 0 where
  is_begin : k ≡ 0 → Told k
  is_end : k ≡ 1 → Told k
  is_semicolon : k ≡ 35 → Told k
  is_if : k ≡ 2 → Told k
  is_then : k ≡ 3 → Told k
  is_else : k ≡ 4 → Told k
  is_do : k ≡ 6 → Told k
  is_procedure : k ≡ 13 → Told k
  is_other : eqb k 0 ≡ false → eqb k 1 ≡ false → eqb k 35 ≡ false → eqb k 2 ≡ false → eqb k 3 ≡ false → eqb k 4 ≡ false → eqb k 6 ≡ false → eqb k 13 ≡ false → Told k

more : (n : ℕ) → eqb (suc n) 0 ≡ false
more n = ne_eqb (suc n) 0 (λ e. omega arith)

-- a test, and what it says
either : {A : Type 0} (b : Bool) → (b ≡ true → A) → (b ≡ false → A) → A
either true f g = f refl
either false f g = g refl

pub told : (k : ℕ) → Told k
told k =
    either (eqb k 0) (λ e. is_begin (eqb-true k 0 e)) (λ a.
    either (eqb k 1) (λ e. is_end (eqb-true k 1 e)) (λ b.
    either (eqb k 35) (λ e. is_semicolon (eqb-true k 35 e)) (λ c.
    either (eqb k 2) (λ e. is_if (eqb-true k 2 e)) (λ d.
    either (eqb k 3) (λ e. is_then (eqb-true k 3 e)) (λ f.
    either (eqb k 4) (λ e. is_else (eqb-true k 4 e)) (λ g.
    either (eqb k 6) (λ e. is_do (eqb-true k 6 e)) (λ h.
    either (eqb k 13) (λ e. is_procedure (eqb-true k 13 e)) (λ i. is_other a b c d f g h i))))))))

-- ---- the gaps that are left, where the writer stands at s with st open

abbrev pub left : State → List ℕ → List ℕ → List (List ℕ)
left s st ks = gaps s.before s.last (replicate s.lines 10) s.line (lines s.level st s.waiting s.heading s.begins ks)

top_level_lem : (st : List ℕ) → top_level st ≡ top_of st - 1
top_level_lem [] = refl
top_level_lem (zero ∷ st) = refl
top_level_lem (suc u ∷ st) = omega arith

spaces_are : (v : ℕ) → spaces v ≡ replicate (2 * v) 32
spaces_are zero = refl
spaces_are (suc v) = let e : 2 * suc v ≡ suc (suc (2 * v)) = omega arith in rw e (ap (λ l. 32 ∷ 32 ∷ l) (spaces_are v))

-- the gap before a symbol of the kind k, with n lines begun
gap_first : (a b n v k : ℕ) (l : List Mark) → gaps a b (replicate n 10) v (symbol k ∷ l) ≡ cond (eqb n 0) (cond (tight a b k) [] (32 ∷ [])) (replicate n 10 ++ replicate (2 * v) 32) ∷ gaps b k [] v l
unfolding gaps
gap_first a b zero v k l = refl
gap_first a b (suc n) v k l = rw (more n) (ap (λ x. ((10 ∷ replicate n 10) ++ x) ∷ gaps b k [] v l) (spaces_are v))

-- a line more is begun
line_more : (a b n v w : ℕ) (l : List Mark) → gaps a b (replicate n 10) v (line w ∷ l) ≡ gaps a b (replicate (n + 1) 10) w l
unfolding gaps
line_more a b n v w l = rw (add-one n)

-- ---- one symbol

abbrev pub Goes : State → List ℕ → ℕ → List ℕ → Type 0
Goes s st k ks =
    left s st (k ∷ ks)
    ≡ gap_of (early_of s st k) k ∷ left (late_of (early_of s st k) st k (peek ks)) (stack_after (early_of s st k) st k (peek ks)) ks

module _ (v o : ℕ) (w a b : ℕ) (st ks : List ℕ) where
  abbrev at : ℕ → Bool → Bool → ℕ → State
  at x h f n = record { level = v; around = o; waiting = x; heading = h; begins = f; lines = n; line = w; before = a; last = b }

  at_begin : (x : ℕ) (h f : Bool) (n : ℕ) → Goes (at x h f n) st 0 ks
  unfolding lines gaps
  at_begin x h f n =
      gap_first a b n w 0 (line (v + 1) ∷ lines (v + 1) (suc v ∷ st) x h true ks)
      ∙ ap (λ u. gap_of (at x h f n) 0 ∷ gaps b 0 (10 ∷ []) (v + 1) (lines (v + 1) (u ∷ st) x h true ks)) (sym (add-one v))

  at_end : (x : ℕ) (h f : Bool) (n : ℕ) → Goes (at x h f n) st 1 ks
  unfolding lines
  at_end x h f n =
      let u = top_of st - 1 in
      ap (λ u. gaps a b (replicate n 10) w (line u ∷ symbol 1 ∷ lines u (below st) x h false ks)) (top_level_lem st)
      ∙ line_more a b n w u (symbol 1 ∷ lines u (below st) x h false ks)
      ∙ gap_first a b (n + 1) u 1 (lines u (below st) x h false ks)

  at_semicolon : (x : ℕ) (h f : Bool) (n : ℕ) → Goes (at x h f n) st 35 ks
  unfolding lines gaps
  at_semicolon x true f n = go (headed (peek ks))
    where
      go : (q : Bool)
          → gaps a b (replicate n 10) w (symbol 35 ∷ line (v + 1) ∷ cond q (lines v st x true false ks) (lines (v + 1) (0 ∷ st) x false true ks))
          ≡ gap_of (at x true f n) 35
          ∷ left (cond q (line_of (passed_of (at x true f n) 35) (v + 1)) (opened_of (head_of (passed_of (at x true f n) 35) false))) (cond q st (0 ∷ st)) ks
      go true = gap_first a b n w 35 (line (v + 1) ∷ lines v st x true false ks)
      go false = gap_first a b n w 35 (line (v + 1) ∷ lines (v + 1) (0 ∷ st) x false true ks)
  at_semicolon x false f n =
      ap (λ u. gaps a b (replicate n 10) w (symbol 35 ∷ line (u + 1) ∷ lines (u + 1) (base st) x false true ks)) (top_level_lem (base st))
      ∙ gap_first a b n w 35 (line (top_of (base st) - 1 + 1) ∷ lines (top_of (base st) - 1 + 1) (base st) x false true ks)
      ∙ out (eqb (top_of st) 0)
    where
      out : (t : Bool)
          → gap_of (at x false f n) 35 ∷ gaps b 35 [] w (line (top_of (base st) - 1 + 1) ∷ lines (top_of (base st) - 1 + 1) (base st) x false true ks)
          ≡ gap_of (at x false f n) 35 ∷ left (inward_of (level_of (cond t (open_of (passed_of (at x false f n) 35) (o - 1)) (passed_of (at x false f n) 35)) (top_of (base st) - 1))) (base st) ks
      out true = refl
      out false = refl

  at_if : (x : ℕ) (h f : Bool) (n : ℕ) → Goes (at x h f n) st 2 ks
  unfolding lines gaps
  at_if x h true n = gap_first a b n w 2 (lines v st x h false ks)
  at_if x h false n = gap_first a b n w 2 (lines v st (suc x) h false ks) ∙ ap (λ y. gap_of (at x h false n) 2 ∷ gaps b 2 [] w (lines v st y h false ks)) (sym (add-one x))

  at_then : (x : ℕ) (h f : Bool) (n : ℕ) → Goes (at x h f n) st 3 ks
  unfolding lines gaps
  at_then zero h f n = gap_first a b n w 3 (line (v + 1) ∷ lines (v + 1) st 0 h true ks)
  at_then (suc x) h f n = rw (more x) (gap_first a b n w 3 (lines v st (suc x) h false ks))

  at_else : (x : ℕ) (h f : Bool) (n : ℕ) → Goes (at x h f n) st 4 ks
  unfolding lines gaps
  at_else zero h f n = line_more a b n w (v - 1) (symbol 4 ∷ line v ∷ lines v st 0 h true ks) ∙ gap_first a b (n + 1) (v - 1) 4 (line v ∷ lines v st 0 h true ks)
  at_else (suc x) h f n =
      let e : x ≡ suc x - 1 = omega arith in
      rw (more x, more x) (gap_first a b n w 4 (lines v st x h false ks) ∙ ap (λ y. gap_of (at (suc x) h f n) 4 ∷ gaps b 4 [] w (lines v st y h false ks)) e)

  at_do : (x : ℕ) (h f : Bool) (n : ℕ) → Goes (at x h f n) st 6 ks
  unfolding lines gaps
  at_do x h f n = gap_first a b n w 6 (line (v + 1) ∷ lines (v + 1) st x h true ks)

  at_procedure : (x : ℕ) (h f : Bool) (n : ℕ) → Goes (at x h f n) st 13 ks
  unfolding lines gaps
  at_procedure x h f n = gap_first a b n w 13 (lines v st x true false ks)

  pub goes : (x : ℕ) (h f : Bool) (n k : ℕ) → Told k → Goes (at x h f n) st k ks
  unfolding lines
  goes x h f n k (is_begin e) = subst (λ k. Goes (at x h f n) st k ks) (sym e) (at_begin x h f n)
  goes x h f n k (is_end e) = subst (λ k. Goes (at x h f n) st k ks) (sym e) (at_end x h f n)
  goes x h f n k (is_semicolon e) = subst (λ k. Goes (at x h f n) st k ks) (sym e) (at_semicolon x h f n)
  goes x h f n k (is_if e) = subst (λ k. Goes (at x h f n) st k ks) (sym e) (at_if x h f n)
  goes x h f n k (is_then e) = subst (λ k. Goes (at x h f n) st k ks) (sym e) (at_then x h f n)
  goes x h f n k (is_else e) = subst (λ k. Goes (at x h f n) st k ks) (sym e) (at_else x h f n)
  goes x h f n k (is_do e) = subst (λ k. Goes (at x h f n) st k ks) (sym e) (at_do x h f n)
  goes x h f n k (is_procedure e) = subst (λ k. Goes (at x h f n) st k ks) (sym e) (at_procedure x h f n)
  goes x h f n k (is_other e0 e1 e35 e2 e3 e4 e6 e13) = simp (e0, e1, e35, e2, e3, e4, e6, e13) (gap_first a b n w k (lines v st x h false ks))

-- ---- all symbols

-- a symbol is spelled by its kind alone
by_kind : (s t : Rattle.symbols.specs.declared.Symbol.Symbol) (bs : List ℕ) → kind s ≡ kind t → spell s (read_off s bs) ≡ spell t (read_off t bs)
unfolding spell word_for sign_for read_off
by_kind s t bs e = rw e

module _ (source : List ℕ) where
  pub penned : (fs : List Found) (s : State) (st : List ℕ) (i : ℕ) (place : ℕ → ℕ) → ((j : ℕ) → j < length fs → place (i + j) ≡ get_or (places_of fs) j 0)
      → text (dress (left s st (kinds_of fs)) (map (token_at source) fs)) (10 ∷ []) ≡ written_from source place s st i (kinds_of fs)
  unfolding written_from dress text spelling
  penned [] s st i place h = refl
  penned (f ∷ fs) s st i place h =
      let k = kind f.symbol in
      let ks = kinds_of fs in
      let here = early_of s st k in
      let s' = late_of here st k (peek ks) in
      let st' = stack_after here st k (peek ks) in
      ap (λ g. text (dress g (map (token_at source) (f ∷ fs))) (10 ∷ [])) (goes s.level s.around s.line s.before s.last st ks s.waiting s.heading s.begins s.lines k (told k))
      ∙ ap (λ r. gap_of here k ++ (spelling (token_at source f) ++ r)) (penned fs s' st' (i + 1) place (λ j l. ap place (omega arith) ∙ h (suc j) (omega arith)))
      ∙ ap (λ w. gap_of here k ++ (w ++ written_from source place s' st' (i + 1) ks))
      (by_kind f.symbol (symbol_of k 0) _ (sym (same_kind f.symbol)) ∙ ap (λ p. spelling_at source k p) (sym (ap place (omega arith) ∙ h 0 (omega arith))))
