-- Arrays of a fixed length as the lists that were written to them, with zeros behind: a word behind the list, a word of the list, and an array
-- that holds the whole list. Assumes nothing.
use Prim.Native.Nat.{ℕ, zero, suc, ◌+◌, ◌*◌, ◌-◌, ◌≤◌, ◌<◌}
use native.Mathlib.Omega.{arith}
use native.Mathlib.Nat.{suc-sub-suc, sub-zero, not-suc-le-zero, le_of_suc-le-suc}
use mathlib.Core.Path.{◌≡◌, refl, sym, ap, ◌∙◌}
use mathlib.Core.List.{List, [], ◌∷◌, ◌++◌, append_assoc}
use lib.ListN.{length, get_or, set, replicate, length-append}

-- n words: those of a list, and zeros behind it
pub shown : ℕ → List ℕ → List ℕ
shown zero l = []
shown (suc n) [] = 0 ∷ shown n []
shown (suc n) (x ∷ l) = x ∷ shown n l

pub shown_none : (n : ℕ) → shown n [] ≡ replicate n 0
unfolding shown
shown_none zero = refl
shown_none (suc n) = ap (λ (l : List ℕ). 0 ∷ l) (shown_none n)

-- the next word
pub shown_next : (n : ℕ) (l : List ℕ) (w : ℕ) → set (shown n l) (length l) w ≡ shown n (l ++ (w ∷ []))
unfolding shown
shown_next zero l w = refl
shown_next (suc n) [] w = refl
shown_next (suc n) (x ∷ l) w = ap (λ (m : List ℕ). x ∷ m) (shown_next n l w)

-- a word that was there
pub shown_set : (n : ℕ) (l : List ℕ) (i w : ℕ) → i < length l → set (shown n l) i w ≡ shown n (set l i w)
unfolding shown
shown_set zero l i w h = refl
shown_set (suc n) [] i w h = absurd (not-suc-le-zero h)
shown_set (suc n) (x ∷ l) zero w h = refl
shown_set (suc n) (x ∷ l) (suc i) w h = ap (λ (m : List ℕ). x ∷ m) (shown_set n l i w (le_of_suc-le-suc h))

-- a zero behind is there already
pub shown_zero : (n : ℕ) (l : List ℕ) → shown n l ≡ shown n (l ++ (0 ∷ []))
unfolding shown
shown_zero zero l = refl
shown_zero (suc n) [] = refl
shown_zero (suc n) (x ∷ l) = ap (λ (m : List ℕ). x ∷ m) (shown_zero n l)

-- all of it
pub shown_whole : (n : ℕ) (l : List ℕ) → length l ≤ n → shown n l ≡ l ++ replicate (n - length l) 0
unfolding shown
shown_whole zero [] h = refl
shown_whole zero (x ∷ l) h = absurd (not-suc-le-zero h)
shown_whole (suc n) [] h = shown_none (suc n) ∙ ap (λ (k : ℕ). replicate k 0) (sym (sub-zero (suc n)))
shown_whole (suc n) (x ∷ l) h = ap (λ (m : List ℕ). x ∷ m) (shown_whole n l (le_of_suc-le-suc h) ∙ ap (λ (k : ℕ). l ++ replicate k 0) (sym (suc-sub-suc n (length l))))

-- what stands there, where there is room for all of it
pub shown_get : (n : ℕ) (l : List ℕ) (i : ℕ) → length l ≤ n → get_or (shown n l) i 0 ≡ get_or l i 0
unfolding shown
shown_get zero [] i h = refl
shown_get zero (x ∷ l) i h = absurd (not-suc-le-zero h)
shown_get (suc n) [] zero h = refl
shown_get (suc n) [] (suc i) h = shown_get n [] i (omega arith)
shown_get (suc n) (x ∷ l) zero h = refl
shown_get (suc n) (x ∷ l) (suc i) h = shown_get n l i (le_of_suc-le-suc h)

-- two words, the list so far being of k times two
pub shown_two : (n k : ℕ) (l : List ℕ) (w v : ℕ) → length l ≡ 2 * k → set (set (shown n l) (2 * k) w) (2 * k + 1) v ≡ shown n (l ++ (w ∷ v ∷ []))
shown_two n k l w v h =
    let e : 2 * k + 1 ≡ length (l ++ (w ∷ [])) = omega (arith, length-append l (w ∷ [])) in
    rw (e, ← h, shown_next n l w, shown_next n (l ++ (w ∷ [])) v, append_assoc l (w ∷ []) (v ∷ []))
