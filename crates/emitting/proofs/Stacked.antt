-- What is open as it stands in an array, newest first: a thing written, the newest one, what is below.
use mathlib.Core.Path.{◌≡◌, refl}
use mathlib.Core.Logic.{◌≢◌}
use mathlib.Core.List.{List, ◌∷◌}
use Prim.Native.Nat.{ℕ, zero, suc, ◌+◌, ◌-◌, ◌<◌, ◌≤◌}
use native.Mathlib.Omega.{arith}
use native.Mathlib.Numerals.{add-one}
use lib.ListN.{length, get_or, set}
use lib.Seq.{get_or-set_same, get_or-set_other}
use Rattle.emitting.specs.declared.Thing.{Thing}
use Rattle.emitting.specs.model.Emission.{top, below}
use Rattle.emitting.specs.model.Arrays.{seen, nothing, things_of}

pub things_top : (n : ℕ) (s : List Thing) → (n ≡ 0 → ⊥) → seen (get_or s (n - 1) nothing) ≡ top (things_of n s)
unfolding things_of top
things_top zero s h = absurd (h refl)
things_top (suc n) s h = let e : suc n - 1 ≡ n = omega arith in rw e

pub things_below : (n : ℕ) (s : List Thing) → things_of (n - 1) s ≡ below (things_of n s)
unfolding things_of below
things_below zero s = refl
things_below (suc n) s = let e : suc n - 1 ≡ n = omega arith in rw e

pub length_things : (n : ℕ) (s : List Thing) → length (things_of n s) ≡ n
unfolding things_of
length_things zero s = refl
length_things (suc n) s = let e = length_things n s in omega arith

-- one from n on is none of the things before n
things_set : (n : ℕ) (s : List Thing) (m : ℕ) (f : Thing) → n ≤ m → things_of n (set s m f) ≡ things_of n s
unfolding things_of
things_set zero s m f h = refl
things_set (suc n) s m f h =
    let a : n ≢ m = omega arith in
    let l : n ≤ m = omega arith in
    rw (get_or-set_other s m n f nothing a, things_set n s m f l)

pub things_write : (n : ℕ) (s : List Thing) (f : Thing) → n < length s → things_of (n + 1) (set s n f) ≡ seen f ∷ things_of n s
unfolding things_of
things_write n s f h =
    let l : n ≤ n = omega arith in
    rw (add-one, get_or-set_same s n f nothing h, things_set n s n f l)
