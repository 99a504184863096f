-- A symbol is spelled by its kind: what is no name and no number by its word or sign, a name or number by its letters, its point among them.
use Prim.Native.Nat.{ℕ, zero, suc, ◌+◌, ◌*◌, ◌≤◌, ◌<◌}
use mathlib.Core.Path.{◌≡◌, refl, ap, ◌∙◌}
use mathlib.Core.Bool.{Bool, true, false, cond, ◌&&◌}
use mathlib.Core.List.{List, [], ◌∷◌, map}
use native.Mathlib.Omega.{arith}
use lib.Dec.{eqb, ltb}
use native.Mathlib.Decide.{dec_lt}
use lib.ListN.{length, get_or, drop, length-append, length-drop}
use borrow.Author.Tests.{ne_eqb, ltb-true}
use Rattle.symbols.specs.Symbols.{kind}
use Rattle.symbols.specs.model.Kinds.{ordered, symbol_of}
use Rattle.symbols.specs.Names.{digit, these, reach, decimals}
use Rattle.symbols.specs.Scan.{Found, kinds_of}
use Rattle.symbols.specs.declared.Symbol.{Symbol}
use Rattle.symbols.specs.declared.Symbol.TheVariants.{Colon}
use Rattle.symbols.specs.Spelling.{word_for, sign_for, spell, with_decimals, read_off}
use Rattle.symbols.proofs.Stored.{same_kind}
use Rattle.clean.specs.model.Bytes.{sort_of, spelling_at, word_at, AllKinds}
use Rattle.clean.proofs.Putting.{run_short}

-- a number from b on that is none of n numbers from b on is at least b + n
abbrev pub NoneFrom : ℕ → ℕ → ℕ → Type 0
NoneFrom b zero k = Unit {0}
NoneFrom b (suc n) k = NoneFrom b n k × (k ≡ b + n → ⊥)

pub past : (b n k : ℕ) → b ≤ k → NoneFrom b n k → b + n ≤ k
past b zero k l h = omega arith
past b (suc n) k l h = let m = past b n k l h.0 in let e = h.1 in omega arith

-- ---- kinds are the numbers below 43, in the order of the symbols

abbrev range : ℕ → ℕ → List ℕ
range a zero = []
range a (suc n) = a ∷ range (a + 1) n

range_at : (a n k d : ℕ) → k < n → get_or (range a n) k d ≡ a + k
range_at a zero k d h = absurd (omega arith)
range_at a (suc n) zero d h = let e : a ≡ a + 0 = omega arith in e
range_at a (suc n) (suc k) d h = range_at (a + 1) n k d (omega arith) ∙ omega arith

kind_at : (l : List Symbol) (k : ℕ) → kind (get_or l k Colon) ≡ get_or (map kind l) k 33
kind_at [] k = refl
kind_at (s ∷ l) zero = refl
kind_at (s ∷ l) (suc k) = kind_at l k

in_order : map kind (ordered 0) ≡ range 0 43
in_order = refl

kind_back : (k : ℕ) → k < 43 → kind (symbol_of k 0) ≡ k
unfolding symbol_of
kind_back k h = kind_at (ordered 0) k ∙ ap (λ l. get_or l k 33) in_order ∙ range_at 0 43 k 33 h ∙ omega arith

small_all : List Symbol → Bool
small_all [] = true
small_all (s ∷ l) = ltb (kind s) 43 && small_all l

small_at : (l : List Symbol) (k : ℕ) → small_all l ≡ true → ltb (kind (get_or l k Colon)) 43 ≡ true
unfolding small_all
small_at [] k h = refl
small_at (s ∷ l) zero h = left (ltb (kind s) 43) (small_all l) h
  where
    left : (a b : Bool) → (a && b) ≡ true → a ≡ true
    left true b h = refl
    left false b h = h
small_at (s ∷ l) (suc k) h = small_at l k (right (ltb (kind s) 43) (small_all l) h)
  where
    right : (a b : Bool) → (a && b) ≡ true → b ≡ true
    right true b h = h
    right false b h = absurd (let z : ◌≡◌ {A = ℕ} 0 1 = cc in omega arith)

pub kind_small : (s : Symbol) → kind s < 43
unfolding symbol_of small_all
kind_small s = let h = ltb-true (kind (symbol_of (kind s) 0)) 43 (small_at (ordered 0) (kind s) refl) in omega (arith, same_kind s)

pub all_kinds : (l : List Found) → AllKinds (kinds_of l)
all_kinds [] = tt
all_kinds (f ∷ l) = (kind_small f.symbol, all_kinds l)

pub kind_in : (ks : List ℕ) (i : ℕ) → AllKinds ks → i < length ks → get_or ks i 0 < 43
kind_in [] i h l = absurd (omega arith)
kind_in (k ∷ ks) zero h l = h.0
kind_in (k ∷ ks) (suc i) h l = kind_in ks i h.1 (omega arith)

-- ---- by its word or sign, and by its letters

pub by_word : (source : List ℕ) (k p : ℕ) → k < 43 → (k ≡ 38 → ⊥) → (k ≡ 39 → ⊥) → (k ≡ 42 → ⊥) → spelling_at source k p ≡ word_at k
unfolding spell
by_word source k p h a b c = rw (kind_back k h, ne_eqb k 38 a, ne_eqb k 39 b, ne_eqb k 42 c)

pub by_low : (source : List ℕ) (k p : ℕ) → k < 38 → spelling_at source k p ≡ word_at k
by_low source k p h = by_word source k p (omega arith) (λ e. omega arith) (λ e. omega arith) (λ e. omega arith)

pub by_letters : (source : List ℕ) (k p : ℕ) → 38 ≤ k → k < 40 → these (sort_of (eqb k 38)) (drop p source) ≡ spelling_at source k p
unfolding spell read_off symbol_of
by_letters source k p l h = go (dec_lt k 39)
  where
    go : Dec (k < 39) → these (sort_of (eqb k 38)) (drop p source) ≡ spelling_at source k p
    go (yes m) = let e : k ≡ 38 = omega arith in rw e
    go (no m) = let e : k ≡ 39 = omega arith in rw e

pub by_decimals : (source : List ℕ) (p : ℕ) → with_decimals (drop p source) ≡ spelling_at source 42 p
unfolding spell read_off symbol_of
by_decimals source p = refl

-- a spelling is short: 16 bytes and twice those of the source are enough
short_all : (n : ℕ) → Bool
short_all zero = true
short_all (suc n) = ltb (length (word_at n)) 16 && short_all n

short_at : (n k : ℕ) → short_all n ≡ true → k < n → ltb (length (word_at k)) 16 ≡ true
unfolding short_all
short_at zero k h l = absurd (omega arith)
short_at (suc n) k h l = go (dec_lt k n) (λ r m. short_at n k r m)
  where
    left : (a b : Bool) → (a && b) ≡ true → a ≡ true
    left true b h = refl
    left false b h = h

    right : (a b : Bool) → (a && b) ≡ true → b ≡ true
    right true b h = h
    right false b h = absurd (let z : ◌≡◌ {A = ℕ} 0 1 = cc in omega arith)

    go : Dec (k < n) → (short_all n ≡ true → k < n → ltb (length (word_at k)) 16 ≡ true) → ltb (length (word_at k)) 16 ≡ true
    go (yes m) f = f (right (ltb (length (word_at n)) 16) (short_all n) h) m
    go (no m) f = let e : k ≡ n = omega arith in rw e (left (ltb (length (word_at n)) 16) (short_all n) h)

word_short : (k : ℕ) → k < 43 → length (word_at k) < 16
unfolding short_all word_for sign_for symbol_of
word_short k h = ltb-true (length (word_at k)) 16 (short_at 43 k refl h)

-- the digits behind a point are no more than the bytes they are found in
decimals_short : (bs : List ℕ) → length (decimals bs) ≤ length bs
unfolding decimals
decimals_short [] = omega arith
decimals_short (b ∷ bs) = go (eqb b 46)
  where
    go : (t : Bool) → length (cond t (these digit bs) []) ≤ suc (length bs)
    go true = omega (arith, run_short digit bs)
    go false = omega arith

with_short : (bs : List ℕ) → length (with_decimals bs) ≤ 1 + 2 * length bs
unfolding with_decimals
with_short bs =
    let r = drop (reach digit bs) bs in
    omega (arith, length-append (these digit bs) (46 ∷ decimals r), run_short digit bs, decimals_short r, length-drop (reach digit bs) bs)

pub spelled_short : (source : List ℕ) (k p : ℕ) → k < 43 → length (spelling_at source k p) ≤ 16 + 2 * length (drop p source)
spelled_short source k p h = go (dec_lt k 38) (dec_lt k 40) (dec_lt k 42)
  where
    go : Dec (k < 38) → Dec (k < 40) → Dec (k < 42) → length (spelling_at source k p) ≤ 16 + 2 * length (drop p source)
    go (yes a) b c = omega (arith, ap length (by_low source k p a), word_short k h)
    go (no a) (yes b) c = omega (arith, ap length (by_letters source k p (omega arith) b), run_short (sort_of (eqb k 38)) (drop p source))
    go (no a) (no b) (yes c) = omega (arith, ap length (by_word source k p h (λ e. omega arith) (λ e. omega arith) (λ e. omega arith)), word_short k h)
    go (no a) (no b) (no c) =
        let e : k ≡ 42 = omega arith in
        omega (arith, ap (λ (j : ℕ). length (spelling_at source j p)) e, ap length (by_decimals source p), with_short (drop p source))
