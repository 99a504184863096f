-- Bytes: blanks, the first byte that is no blank, runs of one sort, points, and words.
use mathlib.Core.Path.{◌≡◌, refl, sym, ap, ◌∙◌}
use mathlib.Core.Bool.{Bool, true, false, cond, ◌&&◌, ◌||◌}
use mathlib.Core.List.{List, [], ◌∷◌, ◌++◌}
use Prim.Native.Nat.{ℕ, suc, pred, ◌+◌, ◌<◌}
use native.Mathlib.Omega.{arith}
use lib.Dec.{eqb}
use lib.ListN.{length, get_or, drop, length-append}
use borrow.Author.Tests.{lt-ltb}
use Rattle.symbols.specs.Names.{blank, digit, these, reach, decimals}
use Rattle.symbols.specs.Symbols.{words}
use Rattle.symbols.specs.Scan.{before, closed, spelled, named, word, gap, followed, turn, then, scan_from}
use Rattle.symbols.specs.declared.Context.{Context}
use Rattle.symbols.specs.declared.Turn.{Turn}
use Rattle.symbols.specs.declared.Turn.TheVariants.{Pass}
use Rattle.symbols.specs.declared.Symbol.{Symbol}
use Rattle.std.specs.Prelude.{Some}
use Rattle.symbols.specs.declared.Lexeme.TheVariants.{Is}
use Rattle.symbols.specs.Spelling.{All}
use Rattle.symbols.proofs.Follows.{blank_no_digit}

-- the first byte that is no blank; 0 where there is none
unfoldable pub ahead : List ℕ → ℕ
ahead [] = 0
ahead (b ∷ bs) = cond (blank b) (ahead bs) b

pub ahead_here : (b : ℕ) (bs : List ℕ) → blank b ≡ false → ahead (b ∷ bs) ≡ b
unfolding ahead
ahead_here b bs e = rw e

pub ahead_past : (b : ℕ) (bs : List ℕ) → blank b ≡ true → ahead (b ∷ bs) ≡ ahead bs
unfolding ahead
ahead_past b bs e = rw e

pub ahead_end : (e : List ℕ) → All blank e → ahead e ≡ 0
unfolding ahead
ahead_end [] h = refl
ahead_end (b ∷ e) h = rw h.0 (ahead_end e h.1)

pub ahead_behind : (g zs : List ℕ) → All blank g → ahead (g ++ zs) ≡ ahead zs
unfolding ahead
ahead_behind [] zs h = refl
ahead_behind (b ∷ g) zs h = rw h.0 (ahead_behind g zs h.1)

pub followed_ahead : (c : ℕ) (bs : List ℕ) → followed c bs ≡ eqb (ahead bs) c
unfolding followed gap ahead
followed_ahead c [] = refl
followed_ahead c (b ∷ bs) = go (blank b) (followed_ahead c bs)
  where
    go : (t : Bool) → eqb (get_or bs (gap bs) 0) c ≡ eqb (ahead bs) c → eqb (get_or (b ∷ bs) (cond t (suc (gap bs)) 0) 0) c ≡ eqb (cond t (ahead bs) b) c
    go true e = e
    go false e = refl

-- ---- a run of one sort, where what follows the blanks is not of it

module _ (sort : ℕ → Bool) (apart : (b : ℕ) → blank b ≡ true → sort b ≡ false) where
  pub these_none : (bs : List ℕ) → sort (ahead bs) ≡ false → these sort bs ≡ []
  unfolding these ahead
  these_none [] h = refl
  these_none (b ∷ bs) h = go (blank b) refl h (these_none bs)
    where
      go : (t : Bool) → blank b ≡ t → sort (cond t (ahead bs) b) ≡ false → (sort (ahead bs) ≡ false → these sort bs ≡ []) → cond (sort b) (b ∷ these sort bs) (cond t (these sort bs) []) ≡ []
      go true e h' f = rw (apart b e) (f h')
      go false e h' f = rw h'

  pub reach_gap : (bs : List ℕ) → sort (ahead bs) ≡ false → reach sort bs ≡ gap bs
  unfolding reach gap ahead
  reach_gap [] h = refl
  reach_gap (b ∷ bs) h = go (blank b) refl h (reach_gap bs)
    where
      go : (t : Bool) → blank b ≡ t → sort (cond t (ahead bs) b) ≡ false → (sort (ahead bs) ≡ false → reach sort bs ≡ gap bs) → cond (sort b || t) (suc (reach sort bs)) 0 ≡ cond t (suc (gap bs)) 0
      go true e h' f = rw (apart b e) (ap suc (f h'))
      go false e h' f = rw h'

  pub these_all : (w bs : List ℕ) → All sort w → sort (ahead bs) ≡ false → these sort (w ++ bs) ≡ w
  unfolding these
  these_all [] bs h s = these_none bs s
  these_all (b ∷ w) bs h s = rw h.0 (ap (λ (l : List ℕ). b ∷ l) (these_all w bs h.1 s))

  pub reach_all : (w bs : List ℕ) → All sort w → sort (ahead bs) ≡ false → reach sort (w ++ bs) ≡ length w + gap bs
  unfolding reach
  reach_all [] bs h s = reach_gap bs s ∙ omega arith
  reach_all (b ∷ w) bs h s = rw h.0 (let e = reach_all w bs h.1 s in omega arith)

-- the bytes of a run are of its sort
pub these_are : (sort : ℕ → Bool) (bs : List ℕ) → All sort (these sort bs)
unfolding these
these_are sort [] = tt
these_are sort (b ∷ bs) = go (sort b) (blank b) refl (these_are sort bs)
  where
    go : (t u : Bool) → sort b ≡ t → All sort (these sort bs) → All sort (cond t (b ∷ these sort bs) (cond u (these sort bs) []))
    go true u e h = (e, h)
    go false true e h = h
    go false false e h = tt

-- behind a run stands a byte that is not of it
pub run_ends : (sort : ℕ → Bool) → sort 0 ≡ false → (bs : List ℕ) → sort (ahead (drop (reach sort bs) bs)) ≡ false
unfolding reach ahead
run_ends sort z [] = z
run_ends sort z (b ∷ bs) = go (sort b) (blank b) refl refl (run_ends sort z bs)
  where
    go : (t u : Bool) → sort b ≡ t → blank b ≡ u → sort (ahead (drop (reach sort bs) bs)) ≡ false → sort (ahead (drop (cond (t || u) (suc (reach sort bs)) 0) (b ∷ bs))) ≡ false
    go true u e f h = h
    go false true e f h = h
    go false false e f h = rw f e

-- where a run has no byte, what stands ahead is not of it
none_ahead : (sort : ℕ → Bool) → sort 0 ≡ false → (bs : List ℕ) → these sort bs ≡ [] → sort (ahead bs) ≡ false
unfolding these ahead
none_ahead sort z [] h = z
none_ahead sort z (b ∷ bs) h = go (sort b) (blank b) refl h (none_ahead sort z bs)
  where
    go : (t u : Bool) → sort b ≡ t → cond t (b ∷ these sort bs) (cond u (these sort bs) []) ≡ [] → (these sort bs ≡ [] → sort (ahead bs) ≡ false) → sort (cond u (ahead bs) b) ≡ false
    go true u e h' f = let y : suc (length (these sort bs)) ≡ 0 = ap length h' in absurd (omega (arith, y))
    go false true e h' f = f h'
    go false false e h' f = e

-- and where it has one, it is
pub some_ahead : (sort : ℕ → Bool) (bs : List ℕ) → ((b : ℕ) → blank b ≡ true → sort b ≡ false) → 0 < length (these sort bs) → sort (ahead bs) ≡ true
unfolding these ahead
some_ahead sort [] apart h = absurd (omega (arith, h))
some_ahead sort (b ∷ bs) apart h = go (sort b) (blank b) refl refl h (some_ahead sort bs apart)
  where
    go : (t u : Bool) → sort b ≡ t → blank b ≡ u → 0 < length (cond t (b ∷ these sort bs) (cond u (these sort bs) [])) → (0 < length (these sort bs) → sort (ahead bs) ≡ true) → sort (cond u (ahead bs) b) ≡ true
    go true false e f h' g = e
    go true true e f h' g = absurd (let z = sym e ∙ apart b f in let y : ◌≡◌ {A = ℕ} 0 1 = cc in omega (arith, y))
    go false true e f h' g = g h'
    go false false e f h' g = absurd (omega (arith, h'))

-- ---- points

-- a point with a digit behind it, behind blanks or none
unfoldable pub dots : List ℕ → Bool
dots [] = false
dots (b ∷ bs) = cond (blank b) (dots bs) (eqb b 46 && digit (ahead bs))

pub dots_here : (b : ℕ) (bs : List ℕ) → blank b ≡ false → dots (b ∷ bs) ≡ (eqb b 46 && digit (ahead bs))
unfolding dots
dots_here b bs e = rw e

pub dots_past : (b : ℕ) (bs : List ℕ) → blank b ≡ true → dots (b ∷ bs) ≡ dots bs
unfolding dots
dots_past b bs e = rw e

pub dots_end : (e : List ℕ) → All blank e → dots e ≡ false
unfolding dots
dots_end [] h = refl
dots_end (b ∷ e) h = rw h.0 (dots_end e h.1)

pub dots_behind : (g zs : List ℕ) → All blank g → dots (g ++ zs) ≡ dots zs
unfolding dots
dots_behind [] zs h = refl
dots_behind (b ∷ g) zs h = rw h.0 (dots_behind g zs h.1)

-- where there is none, no digits stand behind one
pub dots_none : (zs : List ℕ) → dots zs ≡ false → decimals (drop (gap zs) zs) ≡ []
unfolding dots decimals gap
dots_none [] h = refl
dots_none (b ∷ bs) h = go (blank b) h (dots_none bs)
  where
    here : (t : Bool) → (t && digit (ahead bs)) ≡ false → cond t (these digit bs) [] ≡ []
    here true e = these_none digit blank_no_digit bs e
    here false e = refl

    go : (t : Bool) → cond t (dots bs) (eqb b 46 && digit (ahead bs)) ≡ false → (dots bs ≡ false → decimals (drop (gap bs) bs) ≡ []) → decimals (drop (cond t (suc (gap bs)) 0) (b ∷ bs)) ≡ []
    go true e f = f e
    go false e f = here (eqb b 46) e

-- and behind a run of digits, which no such digits follow, there is none
pub run_dots : (bs : List ℕ) → decimals (drop (reach digit bs) bs) ≡ [] → dots (drop (reach digit bs) bs) ≡ false
unfolding dots decimals reach
run_dots [] h = refl
run_dots (b ∷ bs) h = go (digit b) (blank b) refl h (run_dots bs)
  where
    none_there : digit 0 ≡ false
    none_there = unfold digit in refl

    here : (t : Bool) → cond t (these digit bs) [] ≡ [] → (t && digit (ahead bs)) ≡ false
    here true e = none_ahead digit none_there bs e
    here false e = refl

    go : (t u : Bool) → blank b ≡ u → decimals (drop (cond (t || u) (suc (reach digit bs)) 0) (b ∷ bs)) ≡ [] → (decimals (drop (reach digit bs) bs) ≡ [] → dots (drop (reach digit bs) bs) ≡ false)
        → dots (drop (cond (t || u) (suc (reach digit bs)) 0) (b ∷ bs)) ≡ false
    go true u z e f = f e
    go false true z e f = f e
    go false false z e f = rw z (here (eqb b 46) e)

-- ---- words

abbrev Free : List ℕ → Type 0
Free [] = Unit {0}
Free (x ∷ t) = (eqb x 39 ≡ false) × Free t

before_free : (t ys : List ℕ) → Free t → before 39 (t ++ (39 ∷ ys)) ≡ t
unfolding before
before_free [] ys h = refl
before_free (x ∷ t) ys h = rw h.0 (ap (λ (l : List ℕ). x ∷ l) (before_free t ys h.1))

pub word_closed : (w : List ℕ) (s : Symbol) → Free w → spelled words w ≡ Some s → (zs : List ℕ) → word (w ++ (39 ∷ zs)) ≡ Is s (length w + 1)
unfolding word closed named
word_closed w s f e zs =
    let l : length w < length (w ++ (39 ∷ zs)) = omega (arith, length-append w (39 ∷ zs)) in
    rw (before_free w zs f, lt-ltb (length w) (length (w ++ (39 ∷ zs))) l, e)

-- ---- the scan passes over blanks

pub at_turn : (n : ℕ) (c : Context) (p b : ℕ) (bs : List ℕ) (t : Turn) → turn n c b bs ≡ t
    → scan_from n c p 0 (b ∷ bs) ≡ then p t (λ c' k. scan_from n c' (p + 1) k bs) (λ c' k. scan_from (pred n) c' (p + 1) k bs)
unfolding scan_from
at_turn n c p b bs t e = ap (λ (t : Turn). then p t (λ c' k. scan_from n c' (p + 1) k bs) (λ c' k. scan_from (pred n) c' (p + 1) k bs)) e

pub at_blank : (n : ℕ) (c : Context) (p b : ℕ) (bs : List ℕ) → blank b ≡ true → scan_from n c p 0 (b ∷ bs) ≡ scan_from n c (p + 1) 0 bs
unfolding turn
at_blank n c p b bs e = at_turn n c p b bs (Pass c 0) (rw e)

pub blanks_passed : (n : ℕ) (c : Context) (p : ℕ) (g zs : List ℕ) → All blank g → scan_from n c p 0 (g ++ zs) ≡ scan_from n c (p + length g) 0 zs
blanks_passed n c p [] zs h = ap (λ (q : ℕ). scan_from n c q 0 zs) (omega arith)
blanks_passed n c p (b ∷ g) zs h =
    at_blank n c p b (g ++ zs) h.0 ∙ blanks_passed n c (p + 1) g zs h.1 ∙ ap (λ (q : ℕ). scan_from n c q 0 zs) (omega arith)

-- blanks that belong to a name or number, or to nothing: no matter
pub gap_passed : (n : ℕ) (c : Context) (p : ℕ) (zs : List ℕ) → scan_from n c p (gap zs) zs ≡ scan_from n c p 0 zs
unfolding gap scan_from
gap_passed n c p [] = refl
gap_passed n c p (b ∷ zs) = go (blank b) refl (gap_passed n c (p + 1) zs)
  where
    go : (t : Bool) → blank b ≡ t → scan_from n c (p + 1) (gap zs) zs ≡ scan_from n c (p + 1) 0 zs → scan_from n c p (cond t (suc (gap zs)) 0) (b ∷ zs) ≡ scan_from n c p 0 (b ∷ zs)
    go true e h = h ∙ sym (at_blank n c p b zs e)
    go false e h = refl
