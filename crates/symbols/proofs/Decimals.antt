-- Numbers with a point: at most 15 digits make less than 10^15, so that the capped value is theirs; and what is read at a digit or a point of the
-- source, by the digits from there on.
use mathlib.Core.Path.{◌≡◌, refl, sym, ap, ◌∙◌}
use mathlib.Core.Bool.{Bool, true, false, cond, ◌||◌}
use mathlib.Core.List.{List, [], ◌∷◌, ◌++◌}
use Prim.Native.Nat.{ℕ, zero, suc, ◌+◌, ◌-◌, ◌*◌, ◌≤◌, ◌<◌}
use native.Mathlib.Omega.{arith}
use lib.Dec.{eqb, ltb}
use lib.ListN.{length, get_or, drop, length-append, drop_of_length-le}
use lib.Seq.{drop-drop}
use borrow.Author.Tests.{ltb-false, eq-eqb, ne_eqb}
use Rattle.symbols.specs.Names.{blank, digit, these, reach, value_from, value, decimals}
use Rattle.symbols.specs.Scan.{valued, pointed, with_point, number, point}
use Rattle.symbols.specs.model.Steps.{capped, digits_from, pointed_at}
use Rattle.symbols.specs.Spelling.{All}
use Rattle.symbols.specs.declared.Lexeme.{Lexeme}
use Rattle.symbols.specs.declared.Lexeme.TheVariants.{Nothing}
use Rattle.symbols.specs.declared.lexemes.Digits.{Digits}
use Rattle.symbols.proofs.Laws.{peel, digit_range, these_one, these_stop, reach_one, reach_stop, digit_first, capped_from, capped_within, capped_small, valued_capped}
use Rattle.symbols.proofs.SpelledBytes.{these_are}

-- ---- the value of digits

pub all_both : (sort : ℕ → Bool) (l m : List ℕ) → All sort l → All sort m → All sort (l ++ m)
all_both sort [] m h k = k
all_both sort (x ∷ l) m h k = (h.0, all_both sort l m h.1 k)

pub value_both : (v : ℕ) (l m : List ℕ) → value_from v (l ++ m) ≡ value_from (value_from v l) m
unfolding value_from
value_both v [] m = refl
value_both v (x ∷ l) m = value_both (10 * v + (x - 48)) l m

-- n digits behind what is below b
scale : ℕ → ℕ → ℕ
scale zero b = b
scale (suc n) b = scale n (10 * b)

scale_most : (n a b : ℕ) → a ≤ b → scale n a ≤ scale n b
unfolding scale
scale_most zero a b h = h
scale_most (suc n) a b h = scale_most n (10 * a) (10 * b) (omega arith)

scale_more : (n m b : ℕ) → n ≤ m → scale n b ≤ scale m b
unfolding scale
scale_more zero zero b h = omega arith
scale_more zero (suc m) b h = let k = scale_more zero m b (omega arith) in let l = scale_most m b (10 * b) (omega arith) in omega (arith, k, l)
scale_more (suc n) zero b h = absurd (omega arith)
scale_more (suc n) (suc m) b h = scale_more n m (10 * b) (omega arith)

value_below : (l : List ℕ) (v b : ℕ) → All digit l → v < b → value_from v l < scale (length l) b
unfolding value_from scale
value_below [] v b a h = h
value_below (x ∷ l) v b a h =
    let r = digit_range x a.0 in
    value_below l (10 * v + (x - 48)) (10 * b) a.1 (omega (arith, r.0, r.1))

pub value_small : (l : List ℕ) → All digit l → length l ≤ 15 → value_from 0 l < 1000000000000000
unfolding scale
value_small l a h =
    let m : scale (length l) 1 ≤ 1000000000000000 = scale_more (length l) 15 1 h in
    omega (arith, value_below l 0 1 a (omega arith), m)

pub pointed_capped : (l : List ℕ) (m k : ℕ) → All digit l → pointed (capped (value_from 0 l)) (length l) m k ≡ pointed (value_from 0 l) (length l) m k
unfolding pointed
pointed_capped l m k a = go (ltb 15 (length l)) refl
  where
    go : (t : Bool) → ltb 15 (length l) ≡ t → pointed (capped (value_from 0 l)) (length l) m k ≡ pointed (value_from 0 l) (length l) m k
    go true e = rw e
    go false e =
        let s = value_small l a (ltb-false 15 (length l) e) in
        let c = capped_within (value_from 0 l) (omega (arith, s)) in
        rw c

-- ---- digits read one after the other

module _ (s : List ℕ) (from v n i v' n' : ℕ) where
  pub digits_done : these digit (drop i s) ≡ [] → reach digit (drop i s) ≡ 0 → from + reach digit (drop from s) ≡ i + reach digit (drop i s)
      → capped (value_from v (these digit (drop from s))) ≡ capped (value_from v' (these digit (drop i s))) → v' ≤ 1000000000000000
      → n + length (these digit (drop from s)) ≡ n' + length (these digit (drop i s))
      → record { value = v'; count = n'; end = i } ≡ digits_from s from v n
  unfolding digits_from value_from
  digits_done t r e f c d =
      let f' : capped (value_from v (these digit (drop from s))) ≡ v' = f ∙ ap (λ l. capped (value_from v' l)) t ∙ capped_within v' c in
      let d' : n + length (these digit (drop from s)) ≡ n' = omega (arith, d, ap length t) in
      let e' : from + reach digit (drop from s) ≡ i = omega (arith, e, r) in
      rw (f', d', e')

-- ---- what is read behind a point

-- a run has no more bytes of its sort than it reaches
these_short : (sort : ℕ → Bool) (bs : List ℕ) → length (these sort bs) ≤ reach sort bs
unfolding these reach
these_short sort [] = omega arith
these_short sort (b ∷ bs) = go (sort b) (blank b) (these_short sort bs)
  where
    go : (t u : Bool) → length (these sort bs) ≤ reach sort bs → length (cond t (b ∷ these sort bs) (cond u (these sort bs) [])) ≤ cond (t || u) (suc (reach sort bs)) 0
    go true u h = omega arith
    go false true h = omega arith
    go false false h = omega arith

-- the digits f from `at` on, and all, with those behind the point
module _ (s : List ℕ) (at : ℕ) (plain : Lexeme) (f : Digits) (p : f ≡ digits_from s at 0 0) where
  abbrev ds : List ℕ
  ds = these digit (drop at s)

  abbrev rest : List ℕ
  rest = drop (at + reach digit (drop at s) + 1) s

  pub front_end : f.end ≡ at + reach digit (drop at s)
  unfolding digits_from
  front_end = ap (λ (d : Digits). d.end) p

  pub front_value : f.value ≡ capped (value_from 0 ds)
  unfolding digits_from
  front_value = ap (λ (d : Digits). d.value) p

  front_count : f.count ≡ length ds
  unfolding digits_from
  front_count = ap (λ (d : Digits). d.count) p ∙ (let z : 0 + length ds ≡ length ds = omega arith in z)

  -- what reading on behind the point asks
  pub front_few : f.count ≤ f.end + 1
  front_few = omega (arith, front_count, front_end, these_short digit (drop at s))

  pub front_small : f.value ≤ 1000000000000000
  front_small = rw front_value (capped_small (value_from 0 ds))

  with_none : (es : List ℕ) (k : ℕ) → length es ≡ 0 → with_point plain ds es k ≡ plain
  unfolding with_point
  with_none [] k h = refl
  with_none (e ∷ es) k h = absurd (omega (arith, h))

  with_some : (es : List ℕ) (k : ℕ) → All digit es → (length es ≡ 0 → ⊥)
      → pointed (capped (value_from (capped (value_from 0 ds)) es)) (length ds + length es) (length es) k ≡ with_point plain ds es k
  unfolding with_point
  with_some [] k a h = absurd (h refl)
  with_some (e ∷ es) k a h =
      let c : capped (value_from (capped (value_from 0 ds)) (e ∷ es)) ≡ capped (value_from 0 (ds ++ (e ∷ es)))
      = capped_from (value_from 0 ds) (e ∷ es) ∙ ap capped (sym (value_both 0 ds (e ∷ es))) in
      let l : length ds + length (e ∷ es) ≡ length (ds ++ (e ∷ es)) = sym (length-append ds (e ∷ es)) in
      rw (c, l) (pointed_capped (ds ++ (e ∷ es)) (length (e ∷ es)) k (all_both digit ds (e ∷ es) (these_are digit (drop at s)) a))

  module _ (a : Digits) (q : a ≡ digits_from s (f.end + 1) f.value f.count) where
    rest_is : drop (f.end + 1) s ≡ rest
    rest_is = ap (λ i. drop (i + 1) s) front_end

    all_count : a.count ≡ length ds + length (these digit rest)
    unfolding digits_from
    all_count = ap (λ (d : Digits). d.count) q ∙ rw (rest_is, front_count)

    all_value : a.value ≡ capped (value_from (capped (value_from 0 ds)) (these digit rest))
    unfolding digits_from
    all_value = ap (λ (d : Digits). d.value) q ∙ rw (rest_is, front_value)

    all_end : a.end ≡ at + reach digit (drop at s) + 1 + reach digit rest
    unfolding digits_from
    all_end = ap (λ (d : Digits). d.end) q ∙ rw (rest_is, front_end)

    -- what the subtractions and the word ask
    pub all_more : f.count ≤ a.count
    all_more = omega (arith, all_count, front_count)

    pub all_beyond : at + 1 ≤ a.end
    all_beyond = omega (arith, all_end)

    pub all_small : a.value ≤ 1000000000000000
    all_small = rw all_value (capped_small (value_from (capped (value_from 0 ds)) (these digit rest)))

    pub point_none : a.count ≡ f.count → plain ≡ pointed_at s at plain
    unfolding pointed_at
    point_none h = sym (with_none (these digit rest) (reach digit (drop at s) + reach digit rest) (omega (arith, h, all_count, front_count)))

    pub point_some : (a.count ≡ f.count → ⊥) → pointed a.value a.count (a.count - f.count) (a.end - at - 1) ≡ pointed_at s at plain
    unfolding pointed_at
    point_some h =
        let es = these digit rest in
        let d : a.count - f.count ≡ length es = omega (arith, all_count, front_count) in
        let k : a.end - at - 1 ≡ reach digit (drop at s) + reach digit rest = omega (arith, all_end) in
        rw (all_value, d, k, all_count)
        (with_some es (reach digit (drop at s) + reach digit rest) (these_are digit rest) (λ e. h (omega (arith, e, all_count, front_count))))

-- ---- at a digit

module _ (s : List ℕ) (at : ℕ) (h : at < length s) (d : digit (get_or s at 0) ≡ true) where
  abbrev bs : List ℕ
  bs = drop (at + 1) s

  abbrev k : ℕ
  k = reach digit bs

  pub front_reach : reach digit (drop at s) ≡ suc k
  front_reach = reach_one digit s at h d

  front_these : these digit (drop at s) ≡ these digit (get_or s at 0 ∷ bs)
  front_these = these_one digit s at h d ∙ sym (digit_first (get_or s at 0) bs d)

  behind_them : drop k bs ≡ drop (at + suc k) s
  behind_them = let e : at + 1 + k ≡ at + suc k = omega arith in drop-drop k (at + 1) s ∙ ap (λ i. drop i s) e

  -- as it is read with the value capped
  abbrev plain : Lexeme
  plain = valued (capped (value_from 0 (these digit (drop at s)))) (at + reach digit (drop at s) - at - 1)

  plain_is : plain ≡ valued (value (get_or s at 0 ∷ bs)) k
  plain_is =
      let m : at + suc k - at - 1 ≡ k = omega arith in
      rw (front_reach, front_these, m) (valued_capped (value (get_or s at 0 ∷ bs)) k)

  no_point : decimals (drop k bs) ≡ [] → plain ≡ number (get_or s at 0) bs
  unfolding number with_point
  no_point e = plain_is ∙ sym (ap (λ l. with_point (valued (value (get_or s at 0 ∷ bs)) k) (these digit (get_or s at 0 ∷ bs)) l (k + 1 + reach digit (drop 1 (drop k bs)))) e)

  pub number_ends : length s ≤ at + reach digit (drop at s) → plain ≡ number (get_or s at 0) bs
  unfolding decimals
  number_ends l =
      let l' : length s ≤ at + suc k = omega (arith, l, front_reach) in
      no_point (ap decimals (behind_them ∙ drop_of_length-le s l'))

  pub number_stops : at + reach digit (drop at s) < length s → (get_or s (at + reach digit (drop at s)) 0 ≡ 46 → ⊥) → plain ≡ number (get_or s at 0) bs
  unfolding decimals
  number_stops l n =
      let i = at + suc k in
      let l' : i < length s = omega (arith, l, front_reach) in
      let q : eqb (get_or s i 0) 46 ≡ false = ne_eqb (get_or s i 0) 46 (λ z. n (ap (λ j. get_or s (at + j) 0) front_reach ∙ z)) in
      no_point (ap decimals (behind_them ∙ peel s i l') ∙ ap (λ t. cond t (these digit (drop (i + 1) s)) []) q)

  pub number_goes_on : at + reach digit (drop at s) < length s → get_or s (at + reach digit (drop at s)) 0 ≡ 46 → pointed_at s at plain ≡ number (get_or s at 0) bs
  unfolding number pointed_at decimals
  number_goes_on l z =
      let i = at + suc k in
      let l' : i < length s = omega (arith, l, front_reach) in
      let q : eqb (get_or s i 0) 46 ≡ true = eq-eqb (get_or s i 0) 46 (ap (λ j. get_or s (at + j) 0) (sym front_reach) ∙ z) in
      let w : drop k bs ≡ get_or s i 0 ∷ drop (i + 1) s = behind_them ∙ peel s i l' in
      let n : suc k + reach digit (drop (i + 1) s) ≡ k + 1 + reach digit (drop (i + 1) s) = omega arith in
      rw (plain_is, front_reach, front_these, w, q, n)

-- ---- at a point

point_plain : (b : ℕ) → b ≡ 46 → (digit b ≡ false) × (blank b ≡ false)
unfolding digit blank
point_plain b z = (rw z, rw z)

pub point_reach : (s : List ℕ) (at : ℕ) → at < length s → get_or s at 0 ≡ 46 → reach digit (drop at s) ≡ 0
point_reach s at h z = let p = point_plain (get_or s at 0) z in reach_stop digit s at h p.0 p.1

pub point_here : (s : List ℕ) (at : ℕ) → at < length s → get_or s at 0 ≡ 46 → pointed_at s at Nothing ≡ point (drop (at + 1) s)
unfolding pointed_at point
point_here s at h z =
    let p = point_plain (get_or s at 0) z in
    let t = these_stop digit s at h p.0 p.1 in
    let r = point_reach s at h z in
    let a : at + 0 + 1 ≡ at + 1 = omega arith in
    let m : 0 + reach digit (drop (at + 1) s) ≡ reach digit (drop (at + 1) s) = omega arith in
    rw (t, r, a, m)
