-- What begins at a byte, by the bytes xs behind it and what follows them: it is the same whatever follows; or it is open where nothing
-- follows; or it goes on into what follows, and then nothing but blanks is left of xs, or a point with no digit behind it. A blank between xs and what follows changes no symbol.
use mathlib.Core.Path.{◌≡◌, refl, sym, ap, subst, ◌∙◌}
use mathlib.Core.Bool.{Bool, true, false, cond, ◌||◌}
use mathlib.Core.List.{List, [], ◌∷◌, ◌++◌, append-nil}
use mathlib.Core.Logic.{◌⊎◌, inl, inr}
use Prim.Native.Nat.{ℕ, suc, ◌+◌, ◌≤◌, ◌<◌}
use native.Mathlib.Omega.{arith}
use lib.Dec.{eqb, ltb}
use lib.ListN.{length, get_or, drop, length-append, get_or-eq_default, get_or-append, length-drop, drop_of_length-le}
use lib.Seq.{get_or-append-add, drop-append-le, drop-append-add}
use borrow.Author.Tests.{ltb-true, lt-ltb, eqb-true}
use Rattle.symbols.proofs.Within.{Fits, fits_word, fits_sign, fits_with, fits_valued, reach_within}
use Rattle.symbols.specs.Names.{blank, letter, digit, in_name, these, reach, value_from, decimals}
use Rattle.symbols.specs.Symbols.{signs, is, packed}
use Rattle.symbols.specs.Scan.{before, closed, word, gap, followed, sign, sized, name, valued, pointed, with_point, number, point, lexeme, behind, ends_remark}
use Rattle.symbols.specs.model.Steps.{joined_of}
use Rattle.symbols.specs.declared.Symbol.{Symbol}
use Rattle.symbols.specs.declared.Symbol.TheVariants.{Comment, Name, Number, Decimal, Less, LessEqual, Greater, GreaterEqual, Colon, Becomes}
use Rattle.symbols.specs.declared.Context.TheVariants.{Plain}
use Rattle.symbols.specs.declared.Lexeme.{Lexeme}
use Rattle.symbols.specs.declared.Lexeme.TheVariants.{Is, Large, Nothing}

-- ---- the relation

-- nothing but blanks
abbrev pub Bare : List ℕ → Type 0
Bare [] = Unit {0}
Bare (b ∷ bs) = (blank b ≡ true) × Bare bs

-- nothing but blanks, or behind a point
pub data Spent (xs : List ℕ) : Type 0 where
  blanks : Bare xs → Spent xs
  dot : (cs : List ℕ) → xs ≡ 46 ∷ cs → Bare cs → Spent xs

-- a symbol that opens no note, ends no remark and is followed by none
pub record Quiet (s : Symbol) : Type 0 where
  pub after : behind s ≡ Plain
  pub in_remark : ends_remark s ≡ false
  pub no_note : is s Comment ≡ false

-- behind it nothing is left of xs
pub data Tail (xs : List ℕ) : Lexeme → Type 0 where
  tail : {s : Symbol} {k : ℕ} → Quiet s → k ≤ length xs → Spent (drop k xs) → Tail xs (Is s k)
  tail_large : {k : ℕ} → k ≤ length xs → Spent (drop k xs) → Tail xs (Large k)

-- it goes on behind m bytes: one byte further in the first
pub data Grown (m : ℕ) : Lexeme → Lexeme → Type 0 where
  grows : {s : Symbol} (j : ℕ) → Quiet s → Grown m (Is s (m + suc j)) (Is s (m + j))
  grows_large : (j : ℕ) → Grown m (Large (m + suc j)) (Large (m + j))

-- xs; what begins where nothing follows xs; where a blank and then ys; where ys
pub data Alike (xs : List ℕ) : Lexeme → Lexeme → Lexeme → Type 0 where
  same : {x : Lexeme} → Fits x (length xs) → Alike xs x x x
  unclosed : {y z : Lexeme} → Alike xs Nothing y z
  grown : {x y z : Lexeme} → Tail xs x → Grown (length xs) y z → Alike xs x y z

-- the same of what begins with a point: it is no word, and so never open but for its digits
pub data Joint (xs : List ℕ) : Lexeme → Lexeme → Lexeme → Type 0 where
  joint_same : {x : Lexeme} → Fits x (length xs) → Joint xs x x x
  joint_open : {y z : Lexeme} → Grown (length xs) y z → Joint xs Nothing y z
  joint_grown : {x y z : Lexeme} → Tail xs x → Grown (length xs) y z → Joint xs x y z

alike : {xs : List ℕ} {x y z : Lexeme} → Joint xs x y z → Alike xs x y z
alike (joint_same h) = same h
alike (joint_open g) = unclosed
alike (joint_grown t g) = grown t g

-- ---- blanks are of no other sort

blank_is : (P : ℕ → Type 0) → P 32 → P 9 → P 13 → P 10 → (b : ℕ) → blank b ≡ true → P b
unfolding blank
blank_is P a c d e b h = go (eqb b 32) (eqb b 9) (eqb b 13) (eqb b 10) refl refl refl refl h
  where
    go : (t u v w : Bool) → eqb b 32 ≡ t → eqb b 9 ≡ u → eqb b 13 ≡ v → eqb b 10 ≡ w → (t || u || v || w) ≡ true → P b
    go true u v w p q r s h' = subst P (sym (eqb-true b 32 p)) a
    go false true v w p q r s h' = subst P (sym (eqb-true b 9 q)) c
    go false false true w p q r s h' = subst P (sym (eqb-true b 13 r)) d
    go false false false true p q r s h' = subst P (sym (eqb-true b 10 s)) e
    go false false false false p q r s h' = let z : ◌≡◌ {A = Bool} false true = h' in absurd (let y : ◌≡◌ {A = ℕ} 0 1 = cc in omega arith)

pub blank_no_name : (b : ℕ) → blank b ≡ true → in_name b ≡ false
unfolding in_name letter digit
blank_no_name = blank_is (λ b. in_name b ≡ false) refl refl refl refl

pub blank_no_digit : (b : ℕ) → blank b ≡ true → digit b ≡ false
unfolding digit
blank_no_digit = blank_is (λ b. digit b ≡ false) refl refl refl refl

-- ---- runs of one sort: they stop within xs, or go on into what follows

pub data Ran (sort : ℕ → Bool) (xs : List ℕ) : Type 0 where
  stops : ((zs : List ℕ) → these sort (xs ++ zs) ≡ these sort xs) → ((zs : List ℕ) → reach sort (xs ++ zs) ≡ reach sort xs) → reach sort xs < length xs → Ran sort xs
  runs : ((zs : List ℕ) → these sort (xs ++ zs) ≡ these sort xs ++ these sort zs) → ((zs : List ℕ) → reach sort (xs ++ zs) ≡ length xs + reach sort zs) → Ran sort xs

ran_one : (sort : ℕ → Bool) (x : ℕ) (xs : List ℕ) → sort x ≡ true → Ran sort xs → Ran sort (x ∷ xs)
unfolding these reach
ran_one sort x xs e (stops f g l) =
    stops (λ zs. rw e (ap (λ (l : List ℕ). x ∷ l) (f zs))) (λ zs. rw e (ap suc (g zs))) (rw e (omega (arith, l)))
ran_one sort x xs e (runs f g) =
    runs (λ zs. rw e (ap (λ (l : List ℕ). x ∷ l) (f zs))) (λ zs. rw e (let h = g zs in omega arith))

ran_blank : (sort : ℕ → Bool) (x : ℕ) (xs : List ℕ) → sort x ≡ false → blank x ≡ true → Ran sort xs → Ran sort (x ∷ xs)
unfolding these reach
ran_blank sort x xs e b (stops f g l) = stops (λ zs. rw (e, b) (f zs)) (λ zs. rw (e, b) (ap suc (g zs))) (rw (e, b) (omega (arith, l)))
ran_blank sort x xs e b (runs f g) = runs (λ zs. rw (e, b) (f zs)) (λ zs. rw (e, b) (let h = g zs in omega arith))

ran_stop : (sort : ℕ → Bool) (x : ℕ) (xs : List ℕ) → sort x ≡ false → blank x ≡ false → Ran sort (x ∷ xs)
unfolding these reach
ran_stop sort x xs e b = stops (λ zs. rw (e, b)) (λ zs. rw (e, b)) (rw (e, b) (omega arith))

pub ran : (sort : ℕ → Bool) (xs : List ℕ) → Ran sort xs
unfolding these reach
ran sort [] = runs (λ zs. refl) (λ zs. omega arith)
ran sort (x ∷ xs) = go (sort x) (blank x) refl refl (ran sort xs)
  where
    go : (t u : Bool) → sort x ≡ t → blank x ≡ u → Ran sort xs → Ran sort (x ∷ xs)
    go true u e b r = ran_one sort x xs e r
    go false true e b r = ran_blank sort x xs e b r
    go false false e b r = ran_stop sort x xs e b

module _ (sort : ℕ → Bool) (b : ℕ) (e : blank b ≡ true) (f : sort b ≡ false) where
  these_blank : (ys : List ℕ) → these sort (b ∷ ys) ≡ these sort ys
  unfolding these
  these_blank ys = rw (f, e)

  reach_blank : (ys : List ℕ) → reach sort (b ∷ ys) ≡ suc (reach sort ys)
  unfolding reach
  reach_blank ys = rw (f, e)

  -- the bytes of the sort are the same with the blank
  these_with : (xs ys : List ℕ) → these sort (xs ++ (b ∷ ys)) ≡ these sort (xs ++ ys)
  these_with xs ys = go (ran sort xs)
    where
      go : Ran sort xs → these sort (xs ++ (b ∷ ys)) ≡ these sort (xs ++ ys)
      go (stops p q l) = p (b ∷ ys) ∙ sym (p ys)
      go (runs p q) = p (b ∷ ys) ∙ ap (λ (l : List ℕ). these sort xs ++ l) (these_blank ys) ∙ sym (p ys)

-- ---- names

-- what a run of a sort makes: `make` has the bytes and how far they reach
module _ (sort : ℕ → Bool) (b : ℕ) (e : blank b ≡ true) (f : sort b ≡ false) (make : List ℕ → ℕ → Lexeme) where
  pub run-alike :
      (x : ℕ) (xs ys : List ℕ) → sort x ≡ true → ((l : List ℕ) (k : ℕ) → k ≤ length xs → Fits (make l k) (length xs))
      → ((l : List ℕ) → Tail xs (make l (length xs))) → ((l : List ℕ) (j : ℕ) → Grown (length xs) (make l (length xs + suc j)) (make l (length xs + j)))
      → Alike xs (make (x ∷ these sort xs) (reach sort xs)) (make (x ∷ these sort (xs ++ (b ∷ ys))) (reach sort (xs ++ (b ∷ ys)))) (make (x ∷ these sort (xs ++ ys)) (reach sort (xs ++ ys)))
  unfolding reach
  run-alike x xs ys t fit last grow = go (ran sort xs)
    where
      go : Ran sort xs → Alike xs (make (x ∷ these sort xs) (reach sort xs)) (make (x ∷ these sort (xs ++ (b ∷ ys))) (reach sort (xs ++ (b ∷ ys)))) (make (x ∷ these sort (xs ++ ys)) (reach sort (xs ++ ys)))
      go (stops p q l) = rw (p (b ∷ ys), q (b ∷ ys), p ys, q ys) (same (fit (x ∷ these sort xs) (reach sort xs) (reach_within sort xs)))
      go (runs p q) =
          let r = q [] in
          let a = ap (reach sort) (append-nil xs) in
          let n : reach sort xs ≡ length xs = omega arith in
          rw (these_with sort b e f xs ys, n, q (b ∷ ys), q ys, reach_blank sort b e f ys) (grown (last (x ∷ these sort xs)) (grow (x ∷ these sort (xs ++ ys)) (reach sort ys)))

-- a symbol of a name or a number, or one over its limit
either_fits : (t : Bool) (s : Symbol) (k n : ℕ) → k ≤ n → Fits (cond t (Large k) (Is s k)) n
either_fits true s k n h = h
either_fits false s k n h = h

all_passed : (xs : List ℕ) → Spent (drop (length xs) xs)
all_passed xs = let h : length xs ≤ length xs = omega arith in rw (drop_of_length-le xs h) (blanks tt)

either_tail : (t : Bool) (s : Symbol) (k : ℕ) (xs : List ℕ) → Quiet s → k ≤ length xs → Spent (drop k xs) → Tail xs (cond t (Large k) (Is s k))
either_tail true s k xs q h p = tail_large h p
either_tail false s k xs q h p = tail q h p

either_grows : (t : Bool) (s : Symbol) (m j : ℕ) → Quiet s → Grown m (cond t (Large (m + suc j)) (Is s (m + suc j))) (cond t (Large (m + j)) (Is s (m + j)))
either_grows true s m j q = grows_large j
either_grows false s m j q = grows j q

quiet_name : Quiet Name
unfolding behind ends_remark
quiet_name = record { after = refl; in_remark = refl; no_note = refl }

quiet_number : (v : ℕ) → Quiet (Number v)
unfolding behind ends_remark
quiet_number v = record { after = refl; in_remark = refl; no_note = refl }

module _ (b : ℕ) (e : blank b ≡ true) (x : ℕ) (xs ys : List ℕ) where
  name_alike : in_name x ≡ true → Alike xs (name x xs) (name x (xs ++ (b ∷ ys))) (name x (xs ++ ys))
  unfolding name sized these
  name_alike t =
      rw t
      (run-alike in_name b e (blank_no_name b e) (λ l k. sized (length l) k) x xs ys t
      (λ l k h. either_fits (ltb 32 (length l)) Name k (length xs) h)
      (λ l. either_tail (ltb 32 (length l)) Name (length xs) xs quiet_name (omega arith) (all_passed xs))
      (λ l j. either_grows (ltb 32 (length l)) Name (length xs) j quiet_name))

-- ---- numbers: the digits before a point, and those behind it

quiet_decimal : (w : ℕ) → Quiet (Decimal w)
unfolding behind ends_remark
quiet_decimal w = record { after = refl; in_remark = refl; no_note = refl }

valued_tail : (v k : ℕ) (xs : List ℕ) → k ≤ length xs → Spent (drop k xs) → Tail xs (valued v k)
unfolding valued
valued_tail v k xs h p = either_tail (ltb 2147483647 v) (Number v) k xs (quiet_number v) h p

valued_grows : (v m j : ℕ) → Grown m (valued v (m + suc j)) (valued v (m + j))
unfolding valued
valued_grows v m j = either_grows (ltb 2147483647 v) (Number v) m j (quiet_number v)

pointed_tail : (v n m k : ℕ) (xs : List ℕ) → k ≤ length xs → Spent (drop k xs) → Tail xs (pointed v n m k)
unfolding pointed
pointed_tail v n m k xs h p = either_tail (ltb 15 n) (Decimal (packed v m)) k xs (quiet_decimal (packed v m)) h p

pointed_grows : (v n d m j : ℕ) → Grown m (pointed v n d (m + suc j)) (pointed v n d (m + j))
unfolding pointed
pointed_grows v n d m j = either_grows (ltb 15 n) (Decimal (packed v d)) m j (quiet_decimal (packed v d))

-- bytes that are digits and blanks alone, and have no digit
none_bare : (cs : List ℕ) → these digit cs ≡ [] → reach digit cs ≡ length cs → Bare cs
unfolding these reach
none_bare [] t r = tt
none_bare (c ∷ cs) t r = go (digit c) (blank c) refl t r (none_bare cs)
  where
    go : (u v : Bool) → blank c ≡ v → cond u (c ∷ these digit cs) (cond v (these digit cs) []) ≡ [] → cond (u || v) (suc (reach digit cs)) 0 ≡ suc (length cs)
        → (these digit cs ≡ [] → reach digit cs ≡ length cs → Bare cs) → Bare (c ∷ cs)
    go true v f t' r' rec = let z : suc (length (these digit cs)) ≡ 0 = ap length t' in absurd (omega (arith, z))
    go false true f t' r' rec = (f, rec t' (omega (arith, r')))
    go false false f t' r' rec = absurd (omega (arith, r'))

module _ (b : ℕ) (e : blank b ≡ true) (plain : Lexeme) (ds : List ℕ) (k : ℕ) where
  -- the point is behind k bytes, or the first, and cs behind it
  abbrev Behind : List ℕ → Lexeme
  Behind cs = with_point plain ds (these digit cs) (k + reach digit cs)

  module _ (xs cs ys : List ℕ) (n : length xs ≡ k + length cs) (fit : Fits plain (length xs)) (left : Bare cs → Tail xs plain ⊎ (plain ≡ Nothing)) where
    -- cs has digits and blanks alone
    going_on : (ls ms : List ℕ) (j : ℕ) → (ls ≡ [] → Bare cs)
        → Joint xs (with_point plain ds ls (length xs)) (with_point plain ds (ls ++ ms) (length xs + suc j)) (with_point plain ds (ls ++ ms) (length xs + j))
    unfolding with_point
    going_on [] [] j h = joint_same fit
    going_on [] (m ∷ ms) j h = go (left (h refl))
      where
        go : Tail xs plain ⊎ (plain ≡ Nothing)
            → Joint xs plain (pointed (value_from 0 (ds ++ (m ∷ ms))) (length (ds ++ (m ∷ ms))) (length (m ∷ ms)) (length xs + suc j)) (pointed (value_from 0 (ds ++ (m ∷ ms))) (length (ds ++ (m ∷ ms))) (length (m ∷ ms)) (length xs + j))
        go (inl t) = joint_grown t (pointed_grows (value_from 0 (ds ++ (m ∷ ms))) (length (ds ++ (m ∷ ms))) (length (m ∷ ms)) (length xs) j)
        go (inr z) = rw z (joint_open (pointed_grows (value_from 0 (ds ++ (m ∷ ms))) (length (ds ++ (m ∷ ms))) (length (m ∷ ms)) (length xs) j))
    going_on (l ∷ ls) ms j h =
        joint_grown (pointed_tail (value_from 0 (ds ++ (l ∷ ls))) (length (ds ++ (l ∷ ls))) (length (l ∷ ls)) (length xs) xs (omega arith) (all_passed xs))
        (pointed_grows (value_from 0 (ds ++ (l ∷ ls ++ ms))) (length (ds ++ (l ∷ ls ++ ms))) (length (l ∷ ls ++ ms)) (length xs) j)

    with_joint : Joint xs (Behind cs) (Behind (cs ++ (b ∷ ys))) (Behind (cs ++ ys))
    unfolding reach
    with_joint = go (ran digit cs)
      where
        go : Ran digit cs → Joint xs (Behind cs) (Behind (cs ++ (b ∷ ys))) (Behind (cs ++ ys))
        go (stops p q l) =
            rw (p (b ∷ ys), q (b ∷ ys), p ys, q ys)
            (joint_same (fits_with plain ds (these digit cs) (k + reach digit cs) (length xs) fit (λ h. omega (arith, n, l))))
        go (runs p q) =
            let j = reach digit ys in
            let r : reach digit cs ≡ length cs = omega (arith, q [], ap (reach digit) (append-nil cs)) in
            let f = blank_no_digit b e in
            let t = p (b ∷ ys) ∙ ap (λ (l : List ℕ). these digit cs ++ l) (these_blank digit b e f ys) in
            let o : k + reach digit cs ≡ length xs = omega (arith, n, r) in
            let u : k + reach digit (cs ++ (b ∷ ys)) ≡ length xs + suc j = omega (arith, n, q (b ∷ ys), reach_blank digit b e f ys) in
            let w : k + reach digit (cs ++ ys) ≡ length xs + j = omega (arith, n, q ys) in
            rw (o, t, p ys, u, w) (going_on (these digit cs) (these digit ys) j (λ z. none_bare cs z r))

module _ (b : ℕ) (e : blank b ≡ true) where
  pub point_joint : (xs ys : List ℕ) → Joint xs (point xs) (point (xs ++ (b ∷ ys))) (point (xs ++ ys))
  unfolding point
  point_joint xs ys =
      let z : (m : ℕ) → 0 + m ≡ m = λ m. omega arith in
      rw (← z (reach digit xs), ← z (reach digit (xs ++ (b ∷ ys))), ← z (reach digit (xs ++ ys)))
      (with_joint b e Nothing [] 0 xs xs ys (omega arith) tt (λ h. inr refl))

  module _ (x : ℕ) (xs ys : List ℕ) (d : digit x ≡ true) where
    -- the digits do not end within xs
    on_grows : (D E : List ℕ) (m j r : ℕ) → Grown m (with_point (valued (value_from 0 D) (m + suc j)) D E (m + suc j + 1 + r)) (with_point (valued (value_from 0 D) (m + j)) D E (m + j + 1 + r))
    unfolding with_point
    on_grows D [] m j r = valued_grows (value_from 0 D) m j
    on_grows D (c ∷ cs) m j r =
        let a : m + suc j + 1 + r ≡ m + suc (j + 1 + r) = omega arith in
        let o : m + j + 1 + r ≡ m + (j + 1 + r) = omega arith in
        rw (a, o) (pointed_grows (value_from 0 (D ++ (c ∷ cs))) (length (D ++ (c ∷ cs))) (length (c ∷ cs)) m (j + 1 + r))

    -- they end at c, behind which cs is left of xs
    stopped_alike : (k : ℕ) (rest : List ℕ) → k < length xs → drop k xs ≡ rest → (D : List ℕ)
        → Alike xs (with_point (valued (value_from 0 D) k) D (decimals rest) (k + 1 + reach digit (drop 1 rest)))
        (with_point (valued (value_from 0 D) k) D (decimals (rest ++ (b ∷ ys))) (k + 1 + reach digit (drop 1 (rest ++ (b ∷ ys)))))
        (with_point (valued (value_from 0 D) k) D (decimals (rest ++ ys)) (k + 1 + reach digit (drop 1 (rest ++ ys))))
    unfolding decimals
    stopped_alike k [] l w D = absurd (omega (arith, l, length-drop k xs, ap length w))
    stopped_alike k (c ∷ cs) l w D = go (eqb c 46) refl
      where
        fit : Fits (valued (value_from 0 D) k) (length xs)
        fit = fits_valued (value_from 0 D) k (length xs) (omega arith)

        go : (t : Bool) → eqb c 46 ≡ t
            → Alike xs (with_point (valued (value_from 0 D) k) D (cond t (these digit cs) []) (k + 1 + reach digit cs))
            (with_point (valued (value_from 0 D) k) D (cond t (these digit (cs ++ (b ∷ ys))) []) (k + 1 + reach digit (cs ++ (b ∷ ys))))
            (with_point (valued (value_from 0 D) k) D (cond t (these digit (cs ++ ys)) []) (k + 1 + reach digit (cs ++ ys)))
        go false z = unfold with_point in same fit
        go true z =
            alike
            (with_joint b e (valued (value_from 0 D) k) D (k + 1) xs cs ys (omega (arith, l, length-drop k xs, ap length w)) fit
            (λ h. inl (valued_tail (value_from 0 D) k xs (omega arith) (dot cs (w ∙ ap (λ (y : ℕ). y ∷ cs) (eqb-true c 46 z)) h))))

    number_alike : Alike xs (number x xs) (number x (xs ++ (b ∷ ys))) (number x (xs ++ ys))
    unfolding number with_point decimals these reach
    number_alike = rw d (go (ran digit xs))
      where
        N : List ℕ → Lexeme
        N zs = let k = reach digit zs in with_point (valued (value_from 0 (x ∷ these digit zs)) k) (x ∷ these digit zs) (decimals (drop k zs)) (k + 1 + reach digit (drop 1 (drop k zs)))

        go : Ran digit xs → Alike xs (N xs) (N (xs ++ (b ∷ ys))) (N (xs ++ ys))
        go (stops p q l) =
            rw (p (b ∷ ys), q (b ∷ ys), p ys, q ys, drop-append-le (reach digit xs) xs (b ∷ ys) (omega (arith, l)), drop-append-le (reach digit xs) xs ys (omega (arith, l)))
            (stopped_alike (reach digit xs) (drop (reach digit xs) xs) l refl (x ∷ these digit xs))
        go (runs p q) =
            let j = reach digit ys in
            let r : reach digit xs ≡ length xs = omega (arith, q [], ap (reach digit) (append-nil xs)) in
            let f = blank_no_digit b e in
            let t = p (b ∷ ys) ∙ ap (λ (l : List ℕ). these digit xs ++ l) (these_blank digit b e f ys) in
            let u = q (b ∷ ys) ∙ ap (λ (i : ℕ). length xs + i) (reach_blank digit b e f ys) in
            let m : length xs ≤ length xs = omega arith in
            let o : drop (length xs) xs ≡ [] = drop_of_length-le xs m in
            rw (t, p ys, u, q ys, r, o, drop-append-add xs (b ∷ ys) (suc j), drop-append-add xs ys j)
            (grown (valued_tail (value_from 0 (x ∷ these digit xs)) (length xs) xs (omega arith) (all_passed xs))
            (on_grows (x ∷ (these digit xs ++ these digit ys)) (decimals (drop j ys)) (length xs) j (reach digit (drop 1 (drop j ys)))))

-- ---- words: closed within xs, or open

pub before_closed : (q : ℕ) (xs zs : List ℕ) → closed q xs ≡ true → before q (xs ++ zs) ≡ before q xs
unfolding closed before
before_closed q [] zs h = absurd (let z : 0 < 0 = ltb-true 0 0 h in omega arith)
before_closed q (x ∷ xs) zs h = go (eqb x q) refl (before_closed q xs zs)
  where
    go : (t : Bool) → eqb x q ≡ t → (ltb (length (before q xs)) (length xs) ≡ true → before q (xs ++ zs) ≡ before q xs) → before q (x ∷ xs ++ zs) ≡ before q (x ∷ xs)
    go true e f = rw e
    go false e f =
        let k = ltb-true (length (before q (x ∷ xs))) (suc (length xs)) h in
        let k' : suc (length (before q xs)) < suc (length xs) = subst (λ (l : List ℕ). length l < suc (length xs)) (ap (λ (u : Bool). cond u [] (x ∷ before q xs)) e) k in
        rw e (ap (λ (l : List ℕ). x ∷ l) (f (lt-ltb (length (before q xs)) (length xs) (omega arith))))

pub closed_on : (q : ℕ) (xs zs : List ℕ) → closed q xs ≡ true → closed q (xs ++ zs) ≡ true
unfolding closed
closed_on q xs zs h =
    let k = ltb-true (length (before q xs)) (length xs) h in
    rw (before_closed q xs zs h) (lt-ltb (length (before q xs)) (length (xs ++ zs)) (omega (arith, length-append xs zs)))

word_alike : (b : ℕ) (xs ys : List ℕ) → Alike xs (word xs) (word (xs ++ (b ∷ ys))) (word (xs ++ ys))
unfolding word
word_alike b xs ys = go (closed 39 xs) refl
  where
    go : (t : Bool) → closed 39 xs ≡ t → Alike xs (word xs) (word (xs ++ (b ∷ ys))) (word (xs ++ ys))
    go false e = rw e unclosed
    go true e =
        rw (closed_on 39 xs (b ∷ ys) e, closed_on 39 xs ys e, before_closed 39 xs (b ∷ ys) e, before_closed 39 xs ys e, e)
        (same (rw e at (fits_word xs)))

-- ---- signs

pub data Gaps (xs : List ℕ) : Type 0 where
  within : gap xs < length xs → ((zs : List ℕ) → gap (xs ++ zs) ≡ gap xs) → Gaps xs
  bare : Bare xs → ((zs : List ℕ) → gap (xs ++ zs) ≡ length xs + gap zs) → Gaps xs

pub gaps : (xs : List ℕ) → Gaps xs
unfolding gap
gaps [] = bare tt (λ zs. omega arith)
gaps (x ∷ xs) = go (blank x) refl (gaps xs)
  where
    go : (t : Bool) → blank x ≡ t → Gaps xs → Gaps (x ∷ xs)
    go true e (within h f) = within (rw e (omega arith)) (λ zs. rw e (ap suc (f zs)))
    go true e (bare h f) = bare (e, h) (λ zs. rw e (let k = f zs in omega arith))
    go false e g = within (rw e (omega arith)) (λ zs. rw e)

module _ (xs zs : List ℕ) where
  -- a byte that stands within xs, and one that stands behind it
  get_d_left : (i : ℕ) → i < length xs → get_or (xs ++ zs) i 0 ≡ get_or xs i 0
  get_d_left i h = get_or-append xs zs 0 i h

  get_d_right : (i : ℕ) → get_or (xs ++ zs) (length xs + i) 0 ≡ get_or zs i 0
  get_d_right i = get_or-append-add xs zs i 0

-- a sign that may be joined with `=`
joined_alike : (alone twin : Symbol) → Quiet alone → Quiet twin → (b : ℕ) → blank b ≡ true → (xs ys : List ℕ)
    → Alike xs (joined_of alone twin xs) (joined_of alone twin (xs ++ (b ∷ ys))) (joined_of alone twin (xs ++ ys))
unfolding joined_of followed gap
joined_alike alone twin qa qt b e xs ys = go (gaps xs)
  where
    fits : (t : Bool) → gap xs < length xs → Fits (cond t (Is twin (gap xs + 1)) (Is alone 0)) (length xs)
    fits true h = omega arith
    fits false h = omega arith

    on : (t : Bool) → Bare xs
        → Alike xs (Is alone 0) (cond t (Is twin (length xs + suc (gap ys + 1))) (Is alone 0)) (cond t (Is twin (length xs + (gap ys + 1))) (Is alone 0))
    on true h = let z : 0 ≤ length xs = omega arith in grown (tail qa z (blanks h)) (grows (gap ys + 1) qt)
    on false h = let z : 0 ≤ length xs = omega arith in same z

    go : Gaps xs → Alike xs (joined_of alone twin xs) (joined_of alone twin (xs ++ (b ∷ ys))) (joined_of alone twin (xs ++ ys))
    go (within h f) =
        rw (f (b ∷ ys), f ys, get_d_left xs (b ∷ ys) (gap xs) h, get_d_left xs ys (gap xs) h) (same (fits (eqb (get_or xs (gap xs) 0) 61) h))
    go (bare h f) =
        let z = ap gap (append-nil xs) in
        let y = f [] in
        let n : length xs ≤ gap xs = omega arith in
        let d : get_or xs (gap xs) 0 ≡ 0 = get_or-eq_default xs 0 n in
        let k : gap (b ∷ ys) ≡ suc (gap ys) = rw e in
        let p : length xs + suc (gap ys) + 1 ≡ length xs + suc (gap ys + 1) = omega arith in
        let q : length xs + gap ys + 1 ≡ length xs + (gap ys + 1) = omega arith in
        rw (d, f (b ∷ ys), k, get_d_right xs (b ∷ ys) (suc (gap ys)), p, f ys, get_d_right xs ys (gap ys), q) (on (eqb (get_or ys (gap ys) 0) 61) h)

-- any other sign is one byte, whatever follows
pub plain_sign : (x : ℕ) (bs : List ℕ) → eqb x 60 ≡ false → eqb x 62 ≡ false → eqb x 58 ≡ false → sign signs x bs ≡ sign signs x []
unfolding sign
plain_sign x bs p q r = rw (p, q, r)

sign_alike : (b : ℕ) → blank b ≡ true → (x : ℕ) (xs ys : List ℕ) → Alike xs (sign signs x xs) (sign signs x (xs ++ (b ∷ ys))) (sign signs x (xs ++ ys))
unfolding sign joined_of behind ends_remark
sign_alike b e x xs ys = go (eqb x 60) (eqb x 62) (eqb x 58) refl refl refl
  where
    Case : ℕ → Type 0
    Case y = Alike xs (sign signs y xs) (sign signs y (xs ++ (b ∷ ys))) (sign signs y (xs ++ ys))

    hush : (s : Symbol) → behind s ≡ Plain → ends_remark s ≡ false → is s Comment ≡ false → Quiet s
    hush s u v w = record { after = u; in_remark = v; no_note = w }

    go : (t u v : Bool) → eqb x 60 ≡ t → eqb x 62 ≡ u → eqb x 58 ≡ v → Case x
    go true u v p q r = subst Case (sym (eqb-true x 60 p)) (joined_alike Less LessEqual (hush Less refl refl refl) (hush LessEqual refl refl refl) b e xs ys)
    go false true v p q r = subst Case (sym (eqb-true x 62 q)) (joined_alike Greater GreaterEqual (hush Greater refl refl refl) (hush GreaterEqual refl refl refl) b e xs ys)
    go false false true p q r = subst Case (sym (eqb-true x 58 r)) (joined_alike Colon Becomes (hush Colon refl refl refl) (hush Becomes refl refl refl) b e xs ys)
    go false false false p q r =
        rw (plain_sign x xs p q r, plain_sign x (xs ++ (b ∷ ys)) p q r, plain_sign x (xs ++ ys) p q r)
        (same (subst (λ (y : Lexeme). Fits y (length xs)) (plain_sign x xs p q r) (fits_sign signs x xs (omega arith))))

-- ---- what begins at a byte

pub lexeme_alike : (b : ℕ) → blank b ≡ true → (x : ℕ) (xs ys : List ℕ) → Alike xs (lexeme x xs) (lexeme x (xs ++ (b ∷ ys))) (lexeme x (xs ++ ys))
unfolding lexeme in_name
lexeme_alike b e x xs ys = go (letter x) (digit x) refl refl
  where
    pick : (u : Bool) (k l m k' l' m' : Lexeme) → Alike xs k l m → Alike xs k' l' m' → Alike xs (cond u k k') (cond u l l') (cond u m m')
    pick true k l m k' l' m' h h' = h
    pick false k l m k' l' m' h h' = h'

    go : (t u : Bool) → letter x ≡ t → digit x ≡ u → Alike xs (lexeme x xs) (lexeme x (xs ++ (b ∷ ys))) (lexeme x (xs ++ ys))
    go true u p q = rw p (name_alike b e x xs ys (rw p))
    go false true p q = rw (p, q) (number_alike b e x xs ys q)
    go false false p q =
        rw (p, q) (pick (eqb x 46) _ _ _ _ _ _ (alike (point_joint b e xs ys)) (pick (eqb x 39) _ _ _ _ _ _ (word_alike b xs ys) (sign_alike b e x xs ys)))

-- ---- what begins with a point: it is no 'comment'

pub lexeme_dot : (x : ℕ) (bs : List ℕ) → eqb x 46 ≡ true → lexeme x bs ≡ point bs
unfolding lexeme letter digit
lexeme_dot x bs e = subst (λ (y : ℕ). lexeme y bs ≡ point bs) (sym (eqb-true x 46 e)) refl

abbrev pub Calm : Lexeme → Type 0
Calm (Is s k) = is s Comment ≡ false
Calm (Large k) = Unit {0}
Calm Nothing = Unit {0}

calm_with : (es : List ℕ) (k : ℕ) → Calm (with_point Nothing [] es k)
unfolding with_point pointed
calm_with [] k = tt
calm_with (e ∷ es) k = go (ltb 15 (length (e ∷ es)))
  where
    go : (t : Bool) → Calm (cond t (Large k) (Is (Decimal (packed (value_from 0 (e ∷ es)) (length (e ∷ es)))) k))
    go true = tt
    go false = refl

pub calm_point : (bs : List ℕ) → Calm (point bs)
unfolding point
calm_point bs = calm_with (these digit bs) (reach digit bs)
