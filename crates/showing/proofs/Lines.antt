-- Lines and columns: no newline stands between the beginning of a line and a place of it, and the line and the column determine the place.
use mathlib.Core.Path.{◌≡◌, refl, sym, ap, ◌∙◌}
use mathlib.Core.Bool.{Bool, true, false}
use mathlib.Core.List.{List}
use mathlib.Core.Logic.{◌⊎◌, inl, inr, ⊎_elim}
use Prim.Native.Nat.{ℕ, zero, suc, ◌+◌, ◌≤◌, ◌<◌, min}
use native.Mathlib.Omega.{arith}
use borrow.Author.Tests.{leb-true, leb-false}
use lib.Dec.{leb}
use native.Mathlib.Nat.{eq-or-lt_of_le}
use native.Mathlib.Decide.{dec_le}
use lib.ListN.{length, get_or-eq_default}
use Rattle.showing.specs.Pages.{newline, start_of, line_of, column_of}

-- what is at or behind the lesser of two is so of one of them
pub of_two : (a b i : ℕ) → min a b ≤ i → (a ≤ i) ⊎ (b ≤ i)
of_two a b i h = go (leb a b) refl
  where
    go : (t : Bool) → leb a b ≡ t → (a ≤ i) ⊎ (b ≤ i)
    go true e = inl (omega (arith, leb-true))
    go false e = inr (omega (arith, leb-false))

module _ (s : List ℕ) where
  -- behind the end there is no newline
  pub no_newline : (p : ℕ) → length s ≤ p → newline s p ≡ false
  no_newline p h = rw (get_or-eq_default s 0 {n = p} h)

  -- ---- one place more

  pub start_behind : (p : ℕ) → newline s p ≡ true → start_of s (suc p) ≡ suc p
  unfolding start_of
  start_behind p e = rw e

  pub start_on : (p : ℕ) → newline s p ≡ false → start_of s (suc p) ≡ start_of s p
  unfolding start_of
  start_on p e = rw e

  pub line_behind : (p : ℕ) → newline s p ≡ true → line_of s (suc p) ≡ suc (line_of s p)
  unfolding line_of
  line_behind p e = rw e

  pub line_on : (p : ℕ) → newline s p ≡ false → line_of s (suc p) ≡ line_of s p
  unfolding line_of
  line_on p e = rw e

  -- a line begins at or before the place
  pub start_within : (p : ℕ) → start_of s p ≤ p
  unfolding start_of
  start_within zero = omega arith
  start_within (suc p) = go (newline s p) refl (start_within p)
    where
      go : (t : Bool) → newline s p ≡ t → start_of s p ≤ p → start_of s (suc p) ≤ suc p
      go true e h = omega (arith, start_behind p e)
      go false e h = omega (arith, start_on p e)

  -- there are no more lines than places
  pub lines_within : (p : ℕ) → line_of s p ≤ p + 1
  unfolding line_of
  lines_within zero = omega arith
  lines_within (suc p) = go (newline s p) refl (lines_within p)
    where
      go : (t : Bool) → newline s p ≡ t → line_of s p ≤ p + 1 → line_of s (suc p) ≤ suc p + 1
      go true e h = omega (arith, line_behind p e)
      go false e h = omega (arith, line_on p e)

  -- ---- two places, the first not behind the second

  pub lines_rise : (q p : ℕ) → p ≤ q → line_of s p ≤ line_of s q
  lines_rise zero p h = let e : p ≡ 0 = omega arith in omega (arith, ap (line_of s) e)
  lines_rise (suc q) p h = ⊎_elim (λ e. omega (arith, ap (line_of s) e)) (λ k. go (newline s q) refl (lines_rise q p (omega arith))) (eq-or-lt_of_le h)
    where
      go : (t : Bool) → newline s q ≡ t → line_of s p ≤ line_of s q → line_of s p ≤ line_of s (suc q)
      go true e k = omega (arith, line_behind q e)
      go false e k = omega (arith, line_on q e)

  -- places of one line have one beginning
  pub one_start : (q p : ℕ) → p ≤ q → line_of s p ≡ line_of s q → start_of s p ≡ start_of s q
  one_start zero p h e = let z : p ≡ 0 = omega arith in ap (start_of s) z
  one_start (suc q) p h e = ⊎_elim (ap (start_of s)) (λ k. go (newline s q) refl (one_start q p (omega arith)) (omega arith)) (eq-or-lt_of_le h)
    where
      go : (t : Bool) → newline s q ≡ t → (line_of s p ≡ line_of s q → start_of s p ≡ start_of s q) → p ≤ q → start_of s p ≡ start_of s (suc q)
      go true n f k = absurd (omega (arith, line_behind q n, lines_rise q p k))
      go false n f k = f (e ∙ line_on q n) ∙ sym (start_on q n)

  -- behind the end the line goes on
  pub past_end : (q p : ℕ) → length s ≤ p → p ≤ q → line_of s p ≡ line_of s q
  past_end zero p l h = let z : p ≡ 0 = omega arith in ap (line_of s) z
  past_end (suc q) p l h = ⊎_elim (ap (line_of s)) (λ k. past_end q p l (omega arith) ∙ sym (line_on q (no_newline q (omega arith)))) (eq-or-lt_of_le h)

  -- ---- what the beginning of a line is

  -- no newline stands between it and the place
  pub unbroken : (p i : ℕ) → start_of s p ≤ i → i < p → newline s i ≡ false
  unbroken zero i h k = absurd (omega arith)
  unbroken (suc p) i h k = go (newline s p) refl (unbroken p i)
    where
      go : (t : Bool) → newline s p ≡ t → (start_of s p ≤ i → i < p → newline s i ≡ false) → newline s i ≡ false
      go true e f = absurd (omega (arith, start_behind p e))
      go false e f = ⊎_elim (λ z. ap (newline s) z ∙ e) (f (omega (arith, start_on p e))) (eq-or-lt_of_le {n = i} {m = p} (omega arith))

  -- it is the beginning of the source, or a newline stands before it
  pub begins : (p : ℕ) → (start_of s p ≡ 0) ⊎ ((k : ℕ) × (start_of s p ≡ suc k) × (newline s k ≡ true))
  unfolding start_of
  begins zero = inl refl
  begins (suc p) = go (newline s p) refl (begins p)
    where
      go : (t : Bool) → newline s p ≡ t → (start_of s p ≡ 0) ⊎ ((k : ℕ) × (start_of s p ≡ suc k) × (newline s k ≡ true))
          → (start_of s (suc p) ≡ 0) ⊎ ((k : ℕ) × (start_of s (suc p) ≡ suc k) × (newline s k ≡ true))
      go true e b = inr (p, start_behind p e, e)
      go false e (inl z) = inl (start_on p e ∙ z)
      go false e (inr w) = inr (w.0, start_on p e ∙ w.1, w.2)

  -- ---- line and column determine the place

  pub determined : (p q : ℕ) → line_of s p ≡ line_of s q → column_of s p ≡ column_of s q → p ≡ q
  unfolding column_of
  determined p q e f = go (dec_le p q)
    where
      go : Dec (p ≤ q) → p ≡ q
      go (yes h) = omega (arith, one_start q p h e, start_within p, start_within q)
      go (no h) = omega (arith, one_start p q (omega arith) (sym e), start_within p, start_within q)

  -- so do those that are shown, of places that are not cut
  pub told_apart : (p q : ℕ) → p ≤ 65536 → q ≤ 65536 → line_of s (min p 65536) ≡ line_of s (min q 65536)
      → column_of s (min p 65536) ≡ column_of s (min q 65536) → p ≡ q
  told_apart p q h k e f = omega (arith, determined (min p 65536) (min q 65536) e f)
