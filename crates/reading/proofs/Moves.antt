-- Request 7: the loops that bring a prelude and a scheme together, step by step: one law for words of every width.
use Prim.Native.Nat.{ℕ, zero, suc, ◌+◌, ◌-◌, ◌*◌, ◌<◌, ◌≤◌}
use native.Mathlib.Omega.{arith}
use native.Mathlib.Numerals.{add-one}
use mathlib.Core.Path.{◌≡◌, refl, sym, ap, ◌∙◌, subst}
use mathlib.Core.Bool.{true, false, cond}
use mathlib.Core.Logic.{◌⊎◌, inl, inr}
use borrow.Author.Tests.{ne_eqb}
use mathlib.Core.List.{List, [], ◌∷◌, ◌++◌, append_assoc, append-nil}
use lib.ListN.{length, take, drop, set, get_or, replicate, length-set, length-append, drop_of_length-le, take-append-drop}
use lib.Seq.{length-take-le, take_all, take-suc, drop-cons, set_at, take_at, take-append_seam, drop-append_seam, drop-append-add}
use Rattle.grammar.specs.model.Parsing.{zeros}
use Rattle.grammar.specs.NodeKinds.{n_block, n_statements, n_block_end}
use Rattle.names.specs.Nodes.{mark}
use Rattle.table.specs.Table.{has_none}
use Rattle.reading.specs.Two.{beyond}
use Rattle.reading.specs.model.Moves.{laid, raised, first_raised, page, without, shift, first_shifted, marked}

-- ---- words laid over others

pub laid_more : {A : Type 0} (old own : List A) (at i : ℕ) (d : A) → at + i < length old → i < length own → set (laid old at (take i own)) (at + i) (get_or own i d) ≡ laid old at (take (i + 1) own)
laid_more {A} old own at i d l k =
    let P = take at old in
    let T = take i own in
    let v = get_or own i d in
    let y = get_or old (at + i) d in
    let ys = drop (suc (at + i)) old in
    let lT : length T ≡ i = length-take-le i own (omega arith) in
    let lP : length P ≡ at = length-take-le at old (omega arith) in
    let lPT : length (P ++ T) ≡ at + i = omega (arith, length-append P T, lT, lP) in
    let lV : at + length (T ++ (v ∷ [])) ≡ suc (at + i) = omega (arith, length-append T (v ∷ []), lT) in
    let e0 : drop (at + length T) old ≡ y ∷ ys = ap (λ (n : ℕ). drop (at + n) old) lT ∙ drop-cons old (at + i) d l in
    let e1 : laid old at T ≡ (P ++ T) ++ (y ∷ ys) = ap (λ (z : List A). P ++ (T ++ z)) e0 ∙ sym (append_assoc P T (y ∷ ys)) in
    let n1 : take (i + 1) own ≡ T ++ (v ∷ []) = rw add-one (take-suc own i d k) in
    let e2 : laid old at (take (i + 1) own) ≡ (P ++ T) ++ (v ∷ ys) =
    ap (λ (z : List A). laid old at z) n1
    ∙ ap (λ (n : ℕ). P ++ ((T ++ (v ∷ [])) ++ drop n old)) lV
    ∙ ap (λ (z : List A). P ++ z) (append_assoc T (v ∷ []) ys)
    ∙ sym (append_assoc P T (v ∷ ys)) in
    ap (λ (z : List A). set z (at + i) v) e1 ∙ set_at (P ++ T) y ys v (at + i) lPT ∙ sym e2

pub none_laid : {A : Type 0} (old own : List A) (at : ℕ) → old ≡ laid old at (take 0 own)
none_laid old own at =
    let z : at ≡ at + 0 = omega arith in
    sym (take-append-drop at old) ∙ ap (λ (n : ℕ). take at old ++ drop n old) z

-- ---- places raised

raised_at : (n : ℕ) (old : List ℕ) (i d : ℕ) → i < length old → get_or (first_raised n i old) i d ≡ get_or old i d
unfolding raised
raised_at n [] i d l = absurd (omega arith)
raised_at n (x ∷ xs) zero d l = refl
raised_at n (x ∷ xs) (suc i) d l = raised_at n xs i d (omega arith)

raised_more : (n : ℕ) (old : List ℕ) (i d : ℕ) → i < length old → set (first_raised n i old) i (get_or old i d + n) ≡ first_raised n (suc i) old
unfolding raised
raised_more n [] i d l = absurd (omega arith)
raised_more n (x ∷ xs) zero d l = refl
raised_more n (x ∷ xs) (suc i) d l = ap (λ (z : List ℕ). (x + n) ∷ z) (raised_more n xs i d (omega arith))

pub raised_below : (n : ℕ) (old : List ℕ) (i j d : ℕ) → j < i → i ≤ length old → get_or (first_raised n i old) j d ≡ get_or old j d + n
unfolding raised
raised_below n old zero j d l h = absurd (omega arith)
raised_below n [] (suc i) j d l h = absurd (omega arith)
raised_below n (x ∷ xs) (suc i) zero d l h = refl
raised_below n (x ∷ xs) (suc i) (suc j) d l h = raised_below n xs i j d (omega arith) (omega arith)

pub length_raised : (n : ℕ) (old : List ℕ) (i : ℕ) → length (first_raised n i old) ≡ length old
unfolding raised
length_raised n old zero = refl
length_raised n [] (suc i) = refl
length_raised n (x ∷ xs) (suc i) = ap suc (length_raised n xs i)

pub record Raising (old new : List ℕ) (n count i : ℕ) : Type 0 where
  pub upper : i ≤ count
  pub size : length new ≡ length old
  pub words : new ≡ first_raised n i old

pub raising : (old : List ℕ) (n count : ℕ) → Raising old old n count 0
unfolding raised
raising old n count = record { upper = omega arith; size = refl; words = refl }

pub still : {old new : List ℕ} {n count i : ℕ} (d : ℕ) → Raising old new n count i → i < length old → get_or new i d ≡ get_or old i d
still {old} {new} {n} {count} {i} d r l = ap (λ (z : List ℕ). get_or z i d) r.words ∙ raised_at n old i d l

pub raising_on : {old new : List ℕ} {n count i : ℕ} (d : ℕ) → Raising old new n count i → i < count → count ≤ length old → Raising old (set new i (get_or new i d + n)) n count (i + 1)
raising_on {old} {new} {n} {count} {i} d r l h = record {
  upper = omega arith;
  size = length-set new i (get_or new i d + n) ∙ r.size;
  words = ap (λ (v : ℕ). set new i (v + n)) (still d r (omega arith)) ∙ ap (λ (z : List ℕ). set z i (get_or old i d + n)) r.words ∙ rw add-one (raised_more n old i d (omega arith));
}

pub all_raised : {old new : List ℕ} {n count i : ℕ} → Raising old new n count i → count ≤ i → new ≡ first_raised n count old
all_raised {old} {new} {n} {count} {i} r l = let z : i ≡ count = omega (arith, r.upper) in r.words ∙ ap (λ (k : ℕ). first_raised n k old) z

-- and with them those behind, which stay
pub all_front : {new : List ℕ} {n count i : ℕ} (places : List ℕ) → count ≤ length places → Raising (take count places) new n count i → count ≤ i → new ++ drop count places ≡ first_raised n count places
all_front {new} {n} {count} {i} places h r l =
    let T = take count places in
    let z : length T ≡ count = length-take-le count places h in
    let e : first_raised n count T ≡ raised n T =
    (λ j. raised n (take_all count T (omega arith) j) ++ drop_of_length-le T {i = count} (omega arith) j) ∙ append-nil (raised n T) in
    ap (λ (w : List ℕ). w ++ drop count places) (all_raised r l ∙ e)

-- ---- the page

length_zeros : (n : ℕ) → length (zeros n) ≡ n
unfolding zeros
length_zeros zero = refl
length_zeros (suc n) = ap suc (length_zeros n)

zeros_suc : (n : ℕ) → zeros (suc n) ≡ 0 ∷ zeros n
unfolding zeros
zeros_suc n = refl

zeros_none : zeros 0 ≡ []
unfolding zeros
zeros_none = refl

zeros_add : (m n : ℕ) → zeros (m + n) ≡ zeros m ++ zeros n
zeros_add zero n = let z : 0 + n ≡ n = omega arith in ap zeros z ∙ sym (ap (λ (l : List ℕ). l ++ zeros n) zeros_none)
zeros_add (suc m) n =
    let z : suc m + n ≡ suc (m + n) = omega arith in
    ap zeros z ∙ zeros_suc (m + n) ∙ ap (λ (l : List ℕ). 0 ∷ l) (zeros_add m n) ∙ sym (ap (λ (l : List ℕ). l ++ zeros n) (zeros_suc m))

drop_zeros : (k n : ℕ) → k ≤ n → drop k (zeros n) ≡ zeros (n - k)
drop_zeros k n h =
    let z : n ≡ k + (n - k) = omega arith in
    ap (λ (j : ℕ). drop k (zeros j)) z ∙ ap (drop k) (zeros_add k (n - k)) ∙ ap (λ (j : ℕ). drop j (zeros k ++ zeros (n - k))) (sym (length_zeros k)) ∙ drop-append_seam (zeros k) (zeros (n - k))

pub page_laid : (scheme prelude : List ℕ) (n : ℕ) → n ≡ beyond + beyond → length scheme ≤ 16384 → length prelude ≤ 16384 → laid (laid (zeros n) 0 scheme) beyond prelude ≡ page scheme prelude
page_laid scheme prelude n e l l' =
    let Z = zeros (beyond - length scheme) in
    let E = zeros (beyond - length prelude) in
    let a : n - length scheme ≡ beyond - length scheme + beyond = omega arith in
    let a' : 0 + length scheme ≡ length scheme = omega arith in
    let p : length (scheme ++ Z) ≡ beyond = omega (arith, length-append scheme Z, length_zeros (beyond - length scheme)) in
    let p' : beyond + length prelude ≡ length (scheme ++ Z) + length prelude = omega arith in
    let m : laid (zeros n) 0 scheme ≡ (scheme ++ Z) ++ zeros beyond =
    ap (λ (k : ℕ). scheme ++ drop k (zeros n)) a'
    ∙ ap (λ (w : List ℕ). scheme ++ w) (drop_zeros (length scheme) n (omega arith) ∙ ap zeros a ∙ zeros_add (beyond - length scheme) beyond)
    ∙ sym (append_assoc scheme Z (zeros beyond)) in
    let t : take beyond ((scheme ++ Z) ++ zeros beyond) ≡ scheme ++ Z = ap (λ (k : ℕ). take k ((scheme ++ Z) ++ zeros beyond)) (sym p) ∙ take-append_seam (scheme ++ Z) (zeros beyond) in
    let d : drop (beyond + length prelude) ((scheme ++ Z) ++ zeros beyond) ≡ E =
    ap (λ (k : ℕ). drop k ((scheme ++ Z) ++ zeros beyond)) p' ∙ drop-append-add (scheme ++ Z) (zeros beyond) (length prelude) ∙ drop_zeros (length prelude) beyond (omega arith) in
    ap (λ (w : List ℕ). laid w beyond prelude) m
    ∙ ap (λ (w : List ℕ). w ++ (prelude ++ drop (beyond + length prelude) ((scheme ++ Z) ++ zeros beyond))) t
    ∙ ap (λ (w : List ℕ). (scheme ++ Z) ++ (prelude ++ w)) d
    ∙ append_assoc scheme Z (prelude ++ E)

-- ---- nodes behind m symbols

-- four for each
abbrev four : ℕ → ℕ
four zero = 0
four (suc q) = suc (suc (suc (suc (four q))))

four_is : (q : ℕ) → four q ≡ 4 * q
four_is zero = omega arith
four_is (suc q) = omega (arith, four_is q)

shifted_at : (m : ℕ) (old : List ℕ) (q j d : ℕ) → four q ≤ length old → four q ≤ j → get_or (first_shifted m (four q) old) j d ≡ get_or old j d
unfolding shift
shifted_at m old zero j d l h = refl
shifted_at m (k ∷ s ∷ a ∷ b ∷ ws) (suc q) (suc (suc (suc (suc j)))) d l h = shifted_at m ws q j d (omega arith) (omega arith)
shifted_at m (k ∷ s ∷ a ∷ b ∷ ws) (suc q) (suc (suc (suc zero))) d l h = absurd (omega arith)
shifted_at m (k ∷ s ∷ a ∷ b ∷ ws) (suc q) (suc (suc zero)) d l h = absurd (omega arith)
shifted_at m (k ∷ s ∷ a ∷ b ∷ ws) (suc q) (suc zero) d l h = absurd (omega arith)
shifted_at m (k ∷ s ∷ a ∷ b ∷ ws) (suc q) zero d l h = absurd (omega arith)
shifted_at m (k ∷ s ∷ a ∷ []) (suc q) j d l h = absurd (omega arith)
shifted_at m (k ∷ s ∷ []) (suc q) j d l h = absurd (omega arith)
shifted_at m (k ∷ []) (suc q) j d l h = absurd (omega arith)
shifted_at m [] (suc q) j d l h = absurd (omega arith)

shifted_more : (m : ℕ) (old : List ℕ) (q d : ℕ) → four (suc q) ≤ length old
    → set (first_shifted m (four q) old) (suc (four q)) (cond (without (get_or old (four q) d)) (get_or old (suc (four q)) d) (get_or old (suc (four q)) d + m)) ≡ first_shifted m (four (suc q)) old
unfolding shift
shifted_more m (k ∷ s ∷ a ∷ b ∷ ws) zero d l = refl
shifted_more m (k ∷ s ∷ a ∷ b ∷ ws) (suc q) d l = ap (λ (z : List ℕ). k ∷ cond (without k) s (s + m) ∷ a ∷ b ∷ z) (shifted_more m ws q d (omega arith))
shifted_more m (k ∷ s ∷ a ∷ []) q d l = absurd (omega arith)
shifted_more m (k ∷ s ∷ []) q d l = absurd (omega arith)
shifted_more m (k ∷ []) q d l = absurd (omega arith)
shifted_more m [] q d l = absurd (omega arith)

pub record Shifting (old new : List ℕ) (m count i : ℕ) : Type 0 where
  pub upper : i ≤ count
  pub size : length new ≡ length old
  pub words : new ≡ first_shifted m (4 * i) old

pub shifting : (old : List ℕ) (m count : ℕ) → Shifting old old m count 0
unfolding shift
shifting old m count = let z : 0 ≡ 4 * 0 = omega arith in record { upper = omega arith; size = refl; words = ap (λ (n : ℕ). first_shifted m n old) z }

-- what is not yet shifted
pub not_shifted : {old new : List ℕ} {m count i j : ℕ} (d : ℕ) → Shifting old new m count i → 4 * count ≤ length old → 4 * i ≤ j → get_or new j d ≡ get_or old j d
not_shifted {old} {new} {m} {count} {i} {j} d r l h =
    let q = four_is i in
    ap (λ (z : List ℕ). get_or z j d) r.words ∙ ap (λ (n : ℕ). get_or (first_shifted m n old) j d) (sym q) ∙ shifted_at m old i j d (omega (arith, r.upper)) (omega arith)

pub shifting_on : {old new : List ℕ} {m count i v : ℕ} (d : ℕ) → Shifting old new m count i → i < count → 4 * count ≤ length old
    → v ≡ cond (without (get_or new (4 * i) d)) (get_or new (4 * i + 1) d) (get_or new (4 * i + 1) d + m) → Shifting old (set new (4 * i + 1) v) m count (i + 1)
shifting_on {old} {new} {m} {count} {i} {v} d r l h e =
    let q = four_is i in
    let q' : 4 * (i + 1) ≡ four (suc i) = omega (arith, four_is i) in
    let q₁ : 4 * i + 1 ≡ suc (four i) = omega arith in
    let k₀ : get_or new (4 * i) d ≡ get_or old (four i) d = not_shifted d r h (omega arith) ∙ ap (λ (n : ℕ). get_or old n d) (sym q) in
    let k₁ : get_or new (4 * i + 1) d ≡ get_or old (suc (four i)) d = not_shifted d r h (omega arith) ∙ ap (λ (n : ℕ). get_or old n d) q₁ in
    let e' : v ≡ cond (without (get_or old (four i) d)) (get_or old (suc (four i)) d) (get_or old (suc (four i)) d + m) = rw (k₀, k₁) at e in
    record {
      upper = omega arith;
      size = length-set new (4 * i + 1) v ∙ r.size;
      words = ap (λ (z : List ℕ). set z (4 * i + 1) v) r.words ∙ ap (λ (n : ℕ). set (first_shifted m n old) (4 * i + 1) v) (sym q) ∙ ap (λ (n : ℕ). set (first_shifted m (four i) old) n v) q₁
          ∙ ap (λ (x : ℕ). set (first_shifted m (four i) old) (suc (four i)) x) e' ∙ shifted_more m old i d (omega arith) ∙ ap (λ (n : ℕ). first_shifted m n old) (sym q');
    }

pub all_shifted : {old new : List ℕ} {m count i : ℕ} → Shifting old new m count i → count ≤ i → new ≡ first_shifted m (4 * count) old
all_shifted {old} {new} {m} {count} {i} r l = let z : i ≡ count = omega (arith, r.upper) in r.words ∙ ap (λ (n : ℕ). first_shifted m (4 * n) old) z

-- the kinds without a symbol
module _ (k : ℕ) where
  pub has_none_lem : (k ≡ 4) ⊎ ((k ≡ 13) ⊎ ((k ≡ 17) ⊎ (k ≡ 21))) → true ≡ without k
  unfolding has_none
  has_none_lem (inl e) = simp e
  has_none_lem (inr (inl e)) = simp e
  has_none_lem (inr (inr (inl e))) = simp e
  has_none_lem (inr (inr (inr e))) = simp e

  pub has_one : ((k ≡ 4) ⊎ ((k ≡ 13) ⊎ ((k ≡ 17) ⊎ (k ≡ 21))) → ⊥) → false ≡ without k
  unfolding has_none
  has_one h = simp (ne_eqb k 4 (λ e. h (inl e)), ne_eqb k 13 (λ e. h (inr (inl e))), ne_eqb k 17 (λ e. h (inr (inr (inl e)))), ne_eqb k 21 (λ e. h (inr (inr (inr e)))))

-- ---- what was laid, from the beginning on

pub laid_take : (old w : List ℕ) (at n : ℕ) → at + length w ≤ length old → n ≡ at + length w → take n (laid old at w) ≡ take at old ++ w
laid_take old w at n h e =
    let P = take at old in
    let l : length (P ++ w) ≡ n = omega (arith, length-append P w, length-take-le at old (omega arith)) in
    ap (take n) (sym (append_assoc P w (drop (at + length w) old))) ∙ take_at (P ++ w) (drop (at + length w) old) n l

-- the first words are those
pub record Filled (new l : List ℕ) (n : ℕ) : Type 0 where
  pub words : take n new ≡ l
  pub many : n ≡ length l

pub none_filled : (new : List ℕ) → Filled new [] 0
none_filled new = record { words = refl; many = refl }

pub fill : {old new l : List ℕ} {at n : ℕ} (w : List ℕ) → Filled old l at → new ≡ laid old at w → at + length w ≤ length old → n ≡ at + length w → Filled new (l ++ w) n
fill {old} {new} {l} {at} {n} w f e h k = record {
  words = ap (take n) e ∙ laid_take old w at n h k ∙ ap (λ (z : List ℕ). z ++ w) f.words;
  many = omega (arith, f.many, length-append l w);
}

pub symbols_behind : {new : List ℕ} (old own : List ℕ) (m : ℕ) → new ≡ laid old m own → m + length own ≤ length old → take (m + length own) new ≡ take m old ++ own
symbols_behind old own m e h = ap (take (m + length own)) e ∙ laid_take old own m (m + length own) h refl

not_empty : (q : ℕ) (ps ws : List ℕ) → 0 < length ps → (((mark n_block q ++ ps) ++ mark n_statements q) ++ ws) ++ mark n_block_end q ≡ marked q ps ws
not_empty q [] ws h = absurd (omega arith)
not_empty q (x ∷ ps) ws h = simp append_assoc

module _ {new : List ℕ} (own : List ℕ) (q : ℕ) {n : ℕ} where
  pub without_prelude : (prelude : List ℕ) → length prelude ≡ 0 → Filled new own n → Filled new (marked q prelude own) n
  without_prelude [] e f = f
  without_prelude (x ∷ ps) e f = absurd (omega arith)

  pub with_prelude_lem : (prelude : List ℕ) → (length prelude ≡ 0 → ⊥) → Filled new ((((mark n_block q ++ prelude) ++ mark n_statements q) ++ own) ++ mark n_block_end q) n
      → Filled new (marked q prelude own) n
  with_prelude_lem prelude h f = subst (λ (z : List ℕ). Filled new z n) (not_empty q prelude own (omega arith)) f

-- a fill with zeros
pub filled_zeros : (n : ℕ) → replicate n 0 ≡ zeros n
unfolding zeros
filled_zeros n = refl

pub page_from : {w₀ w₁ w₂ : List ℕ} (scheme prelude : List ℕ) (n : ℕ) → w₀ ≡ replicate n 0 → w₁ ≡ laid w₀ 0 scheme → w₂ ≡ laid w₁ beyond prelude → n ≡ beyond + beyond
    → length scheme ≤ 16384 → length prelude ≤ 16384 → w₂ ≡ page scheme prelude
page_from {w₀} {w₁} {w₂} scheme prelude n e₀ e₁ e₂ en l l' =
    e₂ ∙ ap (λ (w : List ℕ). laid w beyond prelude) (e₁ ∙ ap (λ (w : List ℕ). laid w 0 scheme) (e₀ ∙ filled_zeros n)) ∙ page_laid scheme prelude n en l l'
