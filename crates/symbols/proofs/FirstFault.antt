-- "then 3 and 4 by smallest place": a source that is refused is read whole up to the place, with the same symbols, and what begins there is what
-- is refused. What was read before the place ends there at the latest, so it is the same where nothing follows.
use mathlib.Core.Path.{◌≡◌, refl, sym, ap, subst, ◌∙◌}
use mathlib.Core.Logic.{◌⊎◌, inl, inr}
use mathlib.Core.Bool.{Bool, true, false, cond}
use mathlib.Core.List.{List, [], ◌∷◌, ◌++◌, append-nil}
use mathlib.Core.Option.{none, some}
use Prim.Native.Nat.{ℕ, zero, suc, pred, ◌+◌, ◌-◌, ◌≤◌, ◌<◌}
use Prim.Native.Char.{code}
use native.Mathlib.Omega.{arith}
use lib.Dec.{eqb, ltb}
use lib.ListN.{length, get_or, take, drop, length-drop, length-take, take-append-drop, get_or-eq_default, get_or-append, drop_of_length-le}
use lib.Seq.{drop-append-le, drop-append-add, get_or-append-add}
use borrow.Author.Tests.{ltb-false, le-ltb, eqb-true}
use Rattle.answers.specs.Numbers.{no_symbol, too_large}
use Rattle.answers.specs.Answers.{answer}
use Rattle.answers.specs.declared.Refusal.{Refusal}
use Rattle.symbols.specs.Names.{blank, letter, digit, in_name, these, reach, value_from, decimals}
use Rattle.symbols.specs.Symbols.{signs, words, is, packed}
use Rattle.symbols.specs.Scan.{before, closed, spelled, named, word, gap, followed, sign, sized, name, valued, pointed, with_point, number, point, lexeme, behind, ends_remark, note, counted, judged, turn, Scan, kept, then, scan_from, scan}
use Rattle.symbols.specs.model.Steps.{joined_of}
use Rattle.std.specs.Prelude.{Option, Some, None}
use Rattle.symbols.specs.declared.Symbol.{Symbol}
use Rattle.symbols.specs.declared.Symbol.TheVariants.{Comment, Name, Number, Decimal, Less, LessEqual, Greater, GreaterEqual, Colon, Becomes}
use Rattle.symbols.specs.declared.Context.{Context}
use Rattle.symbols.specs.declared.Context.TheVariants.{Opens, Plain, Remark}
use Rattle.symbols.specs.declared.Lexeme.{Lexeme}
use Rattle.symbols.specs.declared.Lexeme.TheVariants.{Is, Large, Nothing}
use Rattle.symbols.specs.declared.Turn.{Turn}
use Rattle.symbols.specs.declared.Turn.TheVariants.{Pass, Keep, Refuse}
use Rattle.symbols.proofs.Follows.{Ran, stops, runs, ran, Gaps, within, bare, gaps, before_closed, closed_on, plain_sign}
use Rattle.symbols.proofs.Sources.{end_context, Kin, kin}

-- ---- what begins at a byte, and ends within the m bytes behind it

abbrev Held : ℕ → Lexeme → Type 0
Held m (Is s k) = k ≤ m
Held m (Large k) = k ≤ m
Held m Nothing = ⊥

-- a run that ends within xs is that of xs
these_none : (sort : ℕ → Bool) (ys : List ℕ) → reach sort ys ≡ 0 → these sort ys ≡ []
unfolding reach these
these_none sort [] h = refl
these_none sort (y ∷ ys) h = go (sort y) (blank y) refl refl
  where
    go : (t u : Bool) → sort y ≡ t → blank y ≡ u → these sort (y ∷ ys) ≡ []
    go true u e f = absurd (let z : suc (reach sort ys) ≡ 0 = sym (rw e) ∙ h in omega arith)
    go false true e f = absurd (let z : suc (reach sort ys) ≡ 0 = sym (rw (e, f)) ∙ h in omega arith)
    go false false e f = rw (e, f)

run_held : (sort : ℕ → Bool) (xs ys : List ℕ) → reach sort (xs ++ ys) ≤ length xs → (these sort xs ≡ these sort (xs ++ ys)) × (reach sort xs ≡ reach sort (xs ++ ys))
unfolding reach
run_held sort xs ys h = go (ran sort xs)
  where
    go : Ran sort xs → (these sort xs ≡ these sort (xs ++ ys)) × (reach sort xs ≡ reach sort (xs ++ ys))
    go (stops p q l) = (sym (p ys), sym (q ys))
    go (runs p q) =
        let z : reach sort ys ≡ 0 = omega (arith, q ys) in
        let a = ap (reach sort) (append-nil xs) in
        (sym (p ys ∙ ap (λ l. these sort xs ++ l) (these_none sort ys z) ∙ append-nil (these sort xs)), omega (arith, q ys, q []))

-- a name or a number, whether or not it is over its limit
held_either : (t : Bool) (s : Symbol) (k m : ℕ) → Held m (cond t (Large k) (Is s k)) → k ≤ m
held_either true s k m h = h
held_either false s k m h = h

name_held : (x : ℕ) (xs ys : List ℕ) → Held (length xs) (name x (xs ++ ys)) → name x xs ≡ name x (xs ++ ys)
unfolding name sized these
name_held x xs ys h =
    let r = run_held in_name xs ys (held_either (ltb 32 (length (these in_name (x ∷ (xs ++ ys))))) Name (reach in_name (xs ++ ys)) (length xs) h) in
    rw (r.0, r.1)

valued_held : (v k m : ℕ) → Held m (valued v k) → k ≤ m
unfolding valued
valued_held v k m h = held_either (ltb 2147483647 v) (Number v) k m h

pointed_held : (v n d k m : ℕ) → Held m (pointed v n d k) → k ≤ m
unfolding pointed
pointed_held v n d k m h = held_either (ltb 15 n) (Decimal (packed v d)) k m h

-- the digits behind a point, which k bytes and cs end
with_held : (plain : Lexeme) (ds : List ℕ) (k m : ℕ) (cs ys : List ℕ) → m ≡ k + length cs → Held m (with_point plain ds (these digit (cs ++ ys)) (k + reach digit (cs ++ ys)))
    → with_point plain ds (these digit cs) (k + reach digit cs) ≡ with_point plain ds (these digit (cs ++ ys)) (k + reach digit (cs ++ ys))
unfolding with_point reach
with_held plain ds k m cs ys n h = go (ran digit cs)
  where
    -- all of cs belongs to the run
    inside : (ls ms : List ℕ) (j : ℕ) → (j ≡ 0 → ms ≡ []) → Held m (with_point plain ds (ls ++ ms) (m + j)) → with_point plain ds ls m ≡ with_point plain ds (ls ++ ms) (m + j)
    inside [] [] j z w = refl
    inside [] (x ∷ ms) j z w =
        let l = pointed_held (value_from 0 (ds ++ (x ∷ ms))) (length (ds ++ (x ∷ ms))) (length (x ∷ ms)) (m + j) m w in
        let y = ap length (z (omega (arith, l))) in
        absurd (omega (arith, y))
    inside (x ∷ ls) ms j z w =
        let l = pointed_held (value_from 0 (ds ++ (x ∷ ls ++ ms))) (length (ds ++ (x ∷ ls ++ ms))) (length (x ∷ ls ++ ms)) (m + j) m w in
        let o : j ≡ 0 = omega (arith, l) in
        let a : m + 0 ≡ m = omega arith in
        rw (z o, o, a, append-nil ls)

    go : Ran digit cs → with_point plain ds (these digit cs) (k + reach digit cs) ≡ with_point plain ds (these digit (cs ++ ys)) (k + reach digit (cs ++ ys))
    go (stops p q l) = rw (p ys, q ys)
    go (runs p q) =
        let r : k + reach digit cs ≡ m = omega (arith, n, q [], ap (reach digit) (append-nil cs)) in
        let u : k + reach digit (cs ++ ys) ≡ m + reach digit ys = omega (arith, n, q ys) in
        rw (r, u, p ys) (inside (these digit cs) (these digit ys) (reach digit ys) (these_none digit ys) (rw (u, p ys) at h))

point_held : (xs ys : List ℕ) → Held (length xs) (point (xs ++ ys)) → point xs ≡ point (xs ++ ys)
unfolding point
point_held xs ys h =
    let z : (m : ℕ) → 0 + m ≡ m = λ m. omega arith in
    rw (← z (reach digit xs), ← z (reach digit (xs ++ ys))) (with_held Nothing [] 0 (length xs) xs ys (omega arith) (subst (λ k. Held (length xs) (with_point Nothing [] (these digit (xs ++ ys)) k)) (sym (z (reach digit (xs ++ ys)))) h))

digits_same : (x : ℕ) (xs ys : List ℕ) → these digit xs ≡ these digit ys → these digit (x ∷ xs) ≡ these digit (x ∷ ys)
unfolding these
digits_same x xs ys e = rw e

module _ (x : ℕ) (xs ys : List ℕ) where
  -- as a number is made of the bytes zs behind its first
  abbrev Made : List ℕ → Lexeme
  Made zs = let k = reach digit zs in with_point (valued (value_from 0 (these digit (x ∷ zs))) k) (these digit (x ∷ zs)) (decimals (drop k zs)) (k + 1 + reach digit (drop 1 (drop k zs)))

  stopped_held : (k : ℕ) (rest : List ℕ) → k < length xs → drop k xs ≡ rest → (D : List ℕ)
      → Held (length xs) (with_point (valued (value_from 0 D) k) D (decimals (rest ++ ys)) (k + 1 + reach digit (drop 1 (rest ++ ys))))
      → with_point (valued (value_from 0 D) k) D (decimals rest) (k + 1 + reach digit (drop 1 rest)) ≡ with_point (valued (value_from 0 D) k) D (decimals (rest ++ ys)) (k + 1 + reach digit (drop 1 (rest ++ ys)))
  unfolding decimals
  stopped_held k [] l w D h = absurd (omega (arith, l, length-drop k xs, ap length w))
  stopped_held k (c ∷ cs) l w D h = go (eqb c 46) h
    where
      go : (t : Bool) → Held (length xs) (with_point (valued (value_from 0 D) k) D (cond t (these digit (cs ++ ys)) []) (k + 1 + reach digit (cs ++ ys)))
          → with_point (valued (value_from 0 D) k) D (cond t (these digit cs) []) (k + 1 + reach digit cs) ≡ with_point (valued (value_from 0 D) k) D (cond t (these digit (cs ++ ys)) []) (k + 1 + reach digit (cs ++ ys))
      go true y = with_held (valued (value_from 0 D) k) D (k + 1) (length xs) cs ys (omega (arith, l, length-drop k xs, ap length w)) y
      go false y = unfold with_point in refl

  -- the digits do not end within xs: then they end where it does
  ended_held : (D E : List ℕ) (m j r : ℕ) → Held m (with_point (valued (value_from 0 D) (m + j)) D E (m + j + 1 + r)) → (j ≡ 0) × (E ≡ [])
  unfolding with_point
  ended_held D [] m j r h = let l = valued_held (value_from 0 D) (m + j) m h in (omega (arith, l), refl)
  ended_held D (c ∷ cs) m j r h =
      let l = pointed_held (value_from 0 (D ++ (c ∷ cs))) (length (D ++ (c ∷ cs))) (length (c ∷ cs)) (m + j + 1 + r) m h in
      absurd (omega (arith, l))

  number_held : Held (length xs) (number x (xs ++ ys)) → number x xs ≡ number x (xs ++ ys)
  unfolding number with_point decimals reach
  number_held h = go (ran digit xs)
    where
      go : Ran digit xs → Made xs ≡ Made (xs ++ ys)
      go (stops p q l) =
          let k = reach digit xs in
          let d : these digit (x ∷ (xs ++ ys)) ≡ these digit (x ∷ xs) = digits_same x (xs ++ ys) xs (p ys) in
          let w = drop-append-le k xs ys (omega (arith, l)) in
          rw (d, q ys, w) (stopped_held k (drop k xs) l refl (these digit (x ∷ xs)) (rw (d, q ys, w) at h))
      go (runs p q) =
          let j = reach digit ys in
          let r : reach digit xs ≡ length xs = omega (arith, q [], ap (reach digit) (append-nil xs)) in
          let w = drop-append-add xs ys j in
          let z = ended_held (these digit (x ∷ (xs ++ ys))) (decimals (drop j ys)) (length xs) j (reach digit (drop 1 (drop j ys))) (rw (q ys, w) at h) in
          let d : these digit (x ∷ (xs ++ ys)) ≡ these digit (x ∷ xs)
          = digits_same x (xs ++ ys) xs (p ys ∙ ap (λ l. these digit xs ++ l) (these_none digit ys z.0) ∙ append-nil (these digit xs)) in
          let m : length xs ≤ length xs = omega arith in
          let o : drop (length xs) xs ≡ [] = drop_of_length-le xs m in
          let a : length xs + j ≡ length xs = omega (arith, z.0) in
          rw (q ys, w, d, r, o, z.1, a)

-- what is not closed within xs reaches behind it
open-long : (q : ℕ) (xs ys : List ℕ) → closed q xs ≡ false → length xs ≤ length (before q (xs ++ ys))
unfolding closed before
open-long q [] ys h = omega arith
open-long q (x ∷ xs) ys h = go (eqb x q) refl (open-long q xs ys)
  where
    go : (t : Bool) → eqb x q ≡ t → (ltb (length (before q xs)) (length xs) ≡ false → length xs ≤ length (before q (xs ++ ys)))
        → suc (length xs) ≤ length (before q (x ∷ xs ++ ys))
    go true e f = absurd (omega (arith, ltb-false 0 (suc (length xs)) (rw e at h)))
    go false e f =
        let l : suc (length xs) ≤ suc (length (before q xs)) = ltb-false (suc (length (before q xs))) (suc (length xs)) (rw e at h) in
        rw e (omega (arith, f (le-ltb (length (before q xs)) (length xs) (omega arith))))

named_held : (r : Option Symbol) (k m : ℕ) → Held m (named r k) → k ≤ m
unfolding named
named_held (Some s) k m h = h
named_held None k m h = absurd h

word_held : (xs ys : List ℕ) → Held (length xs) (word (xs ++ ys)) → word xs ≡ word (xs ++ ys)
unfolding word
word_held xs ys h = go (closed 39 xs) refl
  where
    -- where it is open in xs, the whole word would end behind xs
    never : closed 39 xs ≡ false → (t : Bool) → Held (length xs) (cond t (named (spelled words (before 39 (xs ++ ys))) (length (before 39 (xs ++ ys)) + 1)) Nothing) → ⊥
    never e true w =
        let k = named_held (spelled words (before 39 (xs ++ ys))) (length (before 39 (xs ++ ys)) + 1) (length xs) w in
        let l = open-long 39 xs ys e in
        omega arith
    never e false w = w

    go : (t : Bool) → closed 39 xs ≡ t → word xs ≡ word (xs ++ ys)
    go true e = rw (closed_on 39 xs ys e, before_closed 39 xs ys e, e)
    go false e = absurd (never e (closed 39 (xs ++ ys)) h)

joined_held : (alone twin : Symbol) (xs ys : List ℕ) → Held (length xs) (joined_of alone twin (xs ++ ys)) → joined_of alone twin xs ≡ joined_of alone twin (xs ++ ys)
unfolding joined_of followed
joined_held alone twin xs ys h = go (gaps xs) h
  where
    -- a sign that is joined behind xs ends there
    apart : (t : Bool) → Held (length xs) (cond t (Is twin (length xs + gap ys + 1)) (Is alone 0)) → Is alone 0 ≡ cond t (Is twin (length xs + gap ys + 1)) (Is alone 0)
    apart true w = absurd (omega arith)
    apart false w = refl

    go : Gaps xs → Held (length xs) (joined_of alone twin (xs ++ ys)) → joined_of alone twin xs ≡ joined_of alone twin (xs ++ ys)
    go (within l f) w = rw (f ys, get_or-append xs ys 0 (gap xs) l)
    go (bare b f) w =
        let n : length xs ≤ gap xs = omega (arith, f [], ap gap (append-nil xs)) in
        let d : get_or xs (gap xs) 0 ≡ 0 = get_or-eq_default xs 0 n in
        let e : get_or (xs ++ ys) (length xs + gap ys) 0 ≡ get_or ys (gap ys) 0 = get_or-append-add xs ys (gap ys) 0 in
        rw (d, f ys, e) (apart (eqb (get_or ys (gap ys) 0) 61) (rw (f ys, e) at w))

sign_held : (x : ℕ) (xs ys : List ℕ) → Held (length xs) (sign signs x (xs ++ ys)) → sign signs x xs ≡ sign signs x (xs ++ ys)
unfolding sign joined_of
sign_held x xs ys h = go (eqb x 60) (eqb x 62) (eqb x 58) refl refl refl
  where
    Case : ℕ → Type 0
    Case y = Held (length xs) (sign signs y (xs ++ ys)) → sign signs y xs ≡ sign signs y (xs ++ ys)

    go : (t u v : Bool) → eqb x 60 ≡ t → eqb x 62 ≡ u → eqb x 58 ≡ v → sign signs x xs ≡ sign signs x (xs ++ ys)
    go true u v p q r = subst Case (sym (eqb-true x 60 p)) (joined_held Less LessEqual xs ys) h
    go false true v p q r = subst Case (sym (eqb-true x 62 q)) (joined_held Greater GreaterEqual xs ys) h
    go false false true p q r = subst Case (sym (eqb-true x 58 r)) (joined_held Colon Becomes xs ys) h
    go false false false p q r = plain_sign x xs p q r ∙ sym (plain_sign x (xs ++ ys) p q r)

lexeme_held : (x : ℕ) (xs ys : List ℕ) → Held (length xs) (lexeme x (xs ++ ys)) → lexeme x xs ≡ lexeme x (xs ++ ys)
unfolding lexeme
lexeme_held x xs ys h =
    pick (letter x) _ _ _ _ (name_held x xs ys)
    (pick (digit x) _ _ _ _ (number_held x xs ys)
    (pick (eqb x 46) _ _ _ _ (point_held xs ys) (pick (eqb x 39) _ _ _ _ (word_held xs ys) (sign_held x xs ys))))
    h
  where
    pick : (t : Bool) (a a' b b' : Lexeme) → (Held (length xs) a' → a ≡ a') → (Held (length xs) b' → b ≡ b') → Held (length xs) (cond t a' b') → cond t a b ≡ cond t a' b'
    pick true a a' b b' f g w = f w
    pick false a a' b b' f g w = g w

-- ---- what is done at a byte, and goes no further than the m bytes behind it

abbrev Goes : ℕ → Turn → Type 0
Goes m (Pass c k) = k ≤ m
Goes m (Keep s c k) = k ≤ m
Goes m (Refuse a) = ⊥

counted_goes : (n : ℕ) (s : Symbol) (k m : ℕ) → Goes m (counted n s k) → k ≤ m
unfolding counted
counted_goes zero s k m h = absurd h
counted_goes (suc n) s k m h = h

note_goes : (k : ℕ) (xs ys : List ℕ) → Goes (length xs) (note k (xs ++ ys)) → (k ≤ length xs) × (note k xs ≡ note k (xs ++ ys))
unfolding note
note_goes k xs ys h = go (closed 59 (drop k (xs ++ ys))) h
  where
    reaches : k + (length (before 59 (drop k (xs ++ ys))) + 1) ≤ length xs → (k ≤ length xs) × (note k xs ≡ note k (xs ++ ys))
    reaches l = (s, shut (closed 59 (drop k xs)) refl)
      where
        s : k ≤ length xs
        s = omega arith

        e : drop k (xs ++ ys) ≡ drop k xs ++ ys
        e = drop-append-le k xs ys s

        shut : (t : Bool) → closed 59 (drop k xs) ≡ t → note k xs ≡ note k (xs ++ ys)
        shut true c = rw (e, closed_on 59 (drop k xs) ys c, before_closed 59 (drop k xs) ys c, c)
        shut false c = absurd (omega (arith, open-long 59 (drop k xs) ys c, length-drop k xs, ap (λ w. length (before 59 w)) e))

    go : (t : Bool) → Goes (length xs) (cond t (Pass Opens (k + (length (before 59 (drop k (xs ++ ys))) + 1))) (Refuse (answer no_symbol)))
        → (k ≤ length xs) × (note k xs ≡ note k (xs ++ ys))
    go true w = reaches w
    go false w = absurd w

judged_goes : (n : ℕ) (c : Context) (x : Lexeme) (xs ys : List ℕ) → Goes (length xs) (judged n c x (xs ++ ys)) → Held (length xs) x × (judged n c x xs ≡ judged n c x (xs ++ ys))
unfolding judged
judged_goes n Opens (Is s k) xs ys h = go (is s Comment) h
  where
    go : (t : Bool) → Goes (length xs) (cond t (note k (xs ++ ys)) (counted n s k)) → (k ≤ length xs) × (cond t (note k xs) (counted n s k) ≡ cond t (note k (xs ++ ys)) (counted n s k))
    go true w = note_goes k xs ys w
    go false w = (counted_goes n s k (length xs) w, refl)
judged_goes n Plain (Is s k) xs ys h = (counted_goes n s k (length xs) h, refl)
judged_goes n Remark (Is s k) xs ys h = (go (ends_remark s) h, refl)
  where
    go : (t : Bool) → Goes (length xs) (cond t (counted n s k) (Pass Remark k)) → k ≤ length xs
    go true w = counted_goes n s k (length xs) w
    go false w = w
judged_goes n Opens (Large k) xs ys h = absurd h
judged_goes n Plain (Large k) xs ys h = absurd h
judged_goes n Remark (Large k) xs ys h = (h, refl)
judged_goes n Opens Nothing xs ys h = absurd h
judged_goes n Plain Nothing xs ys h = absurd h
judged_goes n Remark Nothing xs ys h = absurd h

turn_goes : (n : ℕ) (c : Context) (x : ℕ) (xs ys : List ℕ) → Goes (length xs) (turn n c x (xs ++ ys)) → turn n c x xs ≡ turn n c x (xs ++ ys)
unfolding turn
turn_goes n c x xs ys h = go (blank x) h
  where
    go : (t : Bool) → Goes (length xs) (cond t (Pass c 0) (judged n c (lexeme x (xs ++ ys)) (xs ++ ys)))
        → cond t (Pass c 0) (judged n c (lexeme x xs) xs) ≡ cond t (Pass c 0) (judged n c (lexeme x (xs ++ ys)) (xs ++ ys))
    go true w = refl
    go false w =
        let j = judged_goes n c (lexeme x (xs ++ ys)) xs ys w in
        ap (λ l. judged n c l xs) (lexeme_held x xs ys j.0) ∙ j.1

-- the same with the bytes cut off
turn_cut : (n : ℕ) (c : Context) (x : ℕ) (bs : List ℕ) (i : ℕ) → i ≤ length bs → Goes i (turn n c x bs) → turn n c x (take i bs) ≡ turn n c x bs
turn_cut n c x bs i l h =
    let e : take i bs ++ drop i bs ≡ bs = take-append-drop i bs in
    let m : i ≡ length (take i bs) = omega (arith, length-take i bs) in
    turn_goes n c x (take i bs) (drop i bs) (subst (λ w. Goes (length (take i bs)) (turn n c x w)) (sym e) (subst (λ k. Goes k (turn n c x bs)) m h)) ∙ ap (turn n c x) e

-- ---- up to the refusal

-- of a scan R of the bytes from k on: i bytes come before what is refused
record Cut (n : ℕ) (c : Context) (p k : ℕ) (bs : List ℕ) (r : Refusal) (R : Scan) : Type 0 where
  i : ℕ
  from : k ≤ i
  inside : i < length bs
  place : r.place.at ≡ p + i
  before_it : scan_from n c p k (take i bs) ≡ record { found = R.found; refused = none }
  there : turn (n - length R.found) (end_context c R.found) (get_or bs i 0) (drop (i + 1) bs) ≡ Refuse r.answer

none_some : {r : Refusal} → none ≡ some r → ⊥
none_some e = let z : ◌≡◌ {A = ℕ} 0 1 = cc in omega arith

some_same : {r s : Refusal} → some r ≡ some s → r ≡ s
some_same e = cc

at_turn : (n : ℕ) (c : Context) (p x : ℕ) (bs : List ℕ) (t : Turn) → turn n c x bs ≡ t
    → scan_from n c p 0 (x ∷ bs) ≡ then p t (λ d k. scan_from n d (p + 1) k bs) (λ d k. scan_from (pred n) d (p + 1) k bs)
unfolding scan_from
at_turn n c p x bs t e = ap (λ u. then p u (λ d k. scan_from n d (p + 1) k bs) (λ d k. scan_from (pred n) d (p + 1) k bs)) e

-- it stands one byte further on where a byte comes first
next_byte : (x : ℕ) (bs : List ℕ) (i : ℕ) → drop (suc i + 1) (x ∷ bs) ≡ drop (i + 1) bs
next_byte x bs i = let e : suc i + 1 ≡ suc (i + 1) = omega arith in ap (λ k. drop k (x ∷ bs)) e

module _ (bs : List ℕ) (rec : (n : ℕ) (c : Context) (p k : ℕ) (r : Refusal) → (scan_from n c p k bs).refused ≡ some r → Cut n c p k bs r (scan_from n c p k bs)) where
  cut_turn : (n : ℕ) (c : Context) (p x : ℕ) (t : Turn) → turn n c x bs ≡ t → Kin c t → (r : Refusal)
      → (then p t (λ d k. scan_from n d (p + 1) k bs) (λ d k. scan_from (pred n) d (p + 1) k bs)).refused ≡ some r
      → Cut n c p 0 (x ∷ bs) r (then p t (λ d k. scan_from n d (p + 1) k bs) (λ d k. scan_from (pred n) d (p + 1) k bs))
  unfolding scan_from
  cut_turn n c p x (Refuse a) e i r q =
      let w = some_same q in
      let m : n - 0 ≡ n = omega arith in
      record {
        i = 0;
        from = omega arith;
        inside = omega arith;
        place = omega (arith, ap (λ y. y.place.at) w);
        before_it = refl;
        there = ap (λ k. turn k c x bs) m ∙ e ∙ ap (λ y. Refuse y.answer) w;
      }
  cut_turn n c p x (Pass d k) e j r q =
      let C = rec n d (p + 1) k r q in
      let i = C.i in
      let F = (scan_from n d (p + 1) k bs).found in
      let g : Goes i (turn n c x bs) = subst (Goes i) (sym e) C.from in
      record {
        i = suc i;
        from = omega arith;
        inside = omega (arith, C.inside);
        place = omega (arith, C.place);
        before_it = at_turn n c p x (take i bs) (Pass d k) (turn_cut n c x bs i (omega (arith, C.inside)) g ∙ e) ∙ C.before_it;
        there =
            ap (turn (n - length F) (end_context c F) (get_or bs i 0)) (next_byte x bs i)
            ∙ ap (λ h. turn (n - length F) (end_context h F) (get_or bs i 0) (drop (i + 1) bs)) (sym j)
            ∙ C.there;
      }
  cut_turn n c p x (Keep s d k) e j r q =
      let C = rec (pred n) d (p + 1) k r q in
      let i = C.i in
      let F = (scan_from (pred n) d (p + 1) k bs).found in
      let g : Goes i (turn n c x bs) = subst (Goes i) (sym e) C.from in
      let m : n - suc (length F) ≡ pred n - length F = omega arith in
      record {
        i = suc i;
        from = omega arith;
        inside = omega (arith, C.inside);
        place = omega (arith, C.place);
        before_it = at_turn n c p x (take i bs) (Keep s d k) (turn_cut n c x bs i (omega (arith, C.inside)) g ∙ e) ∙ ap (kept s p) C.before_it;
        there =
            ap (turn (n - suc (length F)) (end_context (behind s) F) (get_or bs i 0)) (next_byte x bs i)
            ∙ ap (λ h. turn (n - suc (length F)) (end_context h F) (get_or bs i 0) (drop (i + 1) bs)) (sym j)
            ∙ ap (λ l. turn l (end_context d F) (get_or bs i 0) (drop (i + 1) bs)) m
            ∙ C.there;
      }

cut : (bs : List ℕ) (n : ℕ) (c : Context) (p k : ℕ) (r : Refusal) → (scan_from n c p k bs).refused ≡ some r → Cut n c p k bs r (scan_from n c p k bs)
unfolding scan_from
cut [] n c p k r q = absurd (none_some q)
cut (x ∷ bs) n c p (suc k) r q =
    let C = cut bs n c (p + 1) k r q in
    let i = C.i in
    let F = (scan_from n c (p + 1) k bs).found in
    record {
      i = suc i;
      from = omega (arith, C.from);
      inside = omega (arith, C.inside);
      place = omega (arith, C.place);
      before_it = C.before_it;
      there = ap (turn (n - length F) (end_context c F) (get_or bs i 0)) (next_byte x bs i) ∙ C.there;
    }
cut (x ∷ bs) n c p zero r q = cut_turn bs (cut bs) n c p x (turn n c x bs) refl (kin n c x bs) r q

-- ---- why a byte is refused, in the words of the paper; n more symbols may come

pub data Why (n b : ℕ) (bs : List ℕ) : ℕ → Type 0 where
  -- 3: "no symbol; open apostrophe"
  no_symbol_lem : lexeme b bs ≡ Nothing → Why n b bs no_symbol
  -- 3: "note without `;`"
  open-note : (s : Symbol) (k : ℕ) → lexeme b bs ≡ Is s k → is s Comment ≡ true → closed (code ";") (drop k bs) ≡ false → Why n b bs no_symbol
  -- 4: "number over 2,147,483,647; name over 32 characters"; a number with a point and more than 15 digits
  over : (k : ℕ) → lexeme b bs ≡ Large k → Why n b bs too_large
  -- 4: "symbol 2,049"
  one_too_many : (s : Symbol) (k : ℕ) → lexeme b bs ≡ Is s k → n ≡ 0 → Why n b bs too_large

abbrev Because : ℕ → ℕ → List ℕ → Turn → Type 0
Because n b bs (Pass c k) = Unit {0}
Because n b bs (Keep s c k) = Unit {0}
Because n b bs (Refuse a) = Why n b bs a.number

because_counted : (n b : ℕ) (bs : List ℕ) (s : Symbol) (k : ℕ) → lexeme b bs ≡ Is s k → Because n b bs (counted n s k)
unfolding counted
because_counted zero b bs s k e = one_too_many s k e refl
because_counted (suc n) b bs s k e = tt

because_note : (n b : ℕ) (bs : List ℕ) (s : Symbol) (k : ℕ) → lexeme b bs ≡ Is s k → is s Comment ≡ true → Because n b bs (note k bs)
unfolding note
because_note n b bs s k e q = go (closed 59 (drop k bs)) refl
  where
    go : (t : Bool) → closed 59 (drop k bs) ≡ t → Because n b bs (cond t (Pass Opens (k + (length (before 59 (drop k bs)) + 1))) (Refuse (answer no_symbol)))
    go true w = tt
    go false w = open-note s k e q w

because_judged : (n : ℕ) (c : Context) (b : ℕ) (bs : List ℕ) (x : Lexeme) → lexeme b bs ≡ x → Because n b bs (judged n c x bs)
unfolding judged
because_judged n Opens b bs (Is s k) e = go (is s Comment) refl
  where
    go : (t : Bool) → is s Comment ≡ t → Because n b bs (cond t (note k bs) (counted n s k))
    go true q = because_note n b bs s k e q
    go false q = because_counted n b bs s k e
because_judged n Plain b bs (Is s k) e = because_counted n b bs s k e
because_judged n Remark b bs (Is s k) e = go (ends_remark s)
  where
    go : (t : Bool) → Because n b bs (cond t (counted n s k) (Pass Remark k))
    go true = because_counted n b bs s k e
    go false = tt
because_judged n Opens b bs (Large k) e = over k e
because_judged n Plain b bs (Large k) e = over k e
because_judged n Remark b bs (Large k) e = tt
because_judged n Opens b bs Nothing e = no_symbol_lem e
because_judged n Plain b bs Nothing e = no_symbol_lem e
because_judged n Remark b bs Nothing e = no_symbol_lem e

because : (n : ℕ) (c : Context) (b : ℕ) (bs : List ℕ) → Because n b bs (turn n c b bs)
unfolding turn
because n c b bs = go (blank b)
  where
    go : (t : Bool) → Because n b bs (cond t (Pass c 0) (judged n c (lexeme b bs) bs))
    go true = tt
    go false = because_judged n c b bs (lexeme b bs) refl

-- ---- of a whole source

-- the source cut at the place of the refusal has the same symbols and no refusal, so that nothing before the place is at fault; and what begins at
-- the place, in the context behind those symbols, is refused with the answer
pub record FirstFault (n : ℕ) (source : List ℕ) (r : Refusal) : Type 0 where
  pub inside : r.place.at < length source
  pub read_before : scan n (take r.place.at source) ≡ record { found = (scan n source).found; refused = none }
  pub refused-there :
      turn (n - length (scan n source).found) (end_context Plain (scan n source).found) (get_or source r.place.at 0) (drop (r.place.at + 1) source) ≡ Refuse r.answer
  pub why : Why (n - length (scan n source).found) (get_or source r.place.at 0) (drop (r.place.at + 1) source) r.answer.number

pub first_fault : (n : ℕ) (source : List ℕ) (r : Refusal) → (scan n source).refused ≡ some r → FirstFault n source r
unfolding scan
first_fault n source r q =
    let C = cut source n Plain 0 0 r q in
    let F = (scan_from n Plain 0 0 source).found in
    let e : r.place.at ≡ C.i = omega (arith, C.place) in
    let b = get_or source r.place.at 0 in
    let bs = drop (r.place.at + 1) source in
    let t : turn (n - length F) (end_context Plain F) b bs ≡ Refuse r.answer
    = ap (λ i. turn (n - length F) (end_context Plain F) (get_or source i 0) (drop (i + 1) source)) e ∙ C.there in
    record {
      inside = omega (arith, C.inside);
      read_before = ap (λ i. scan_from n Plain 0 0 (take i source)) e ∙ C.before_it;
      refused-there = t;
      why = subst (Because (n - length F) b bs) t (because (n - length F) (end_context Plain F) b bs);
    }

-- so the answer is 3 or 4
pub three_or_four : (n : ℕ) (source : List ℕ) (r : Refusal) → (scan n source).refused ≡ some r → (r.answer.number ≡ no_symbol) ⊎ (r.answer.number ≡ too_large)
three_or_four n source r q = go (first_fault n source r q).why
  where
    go : {m k b : ℕ} {bs : List ℕ} → Why k b bs m → (m ≡ no_symbol) ⊎ (m ≡ too_large)
    go (no_symbol_lem e) = inl refl
    go (open-note s k e w o) = inl refl
    go (over k e) = inr refl
    go (one_too_many s k e o) = inr refl
