-- How many bytes are shown together at a place, by the four bytes from there on and what the tests say of them.
use Prim.Native.Nat.{ℕ, ◌+◌}
use mathlib.Core.Path.{◌≡◌, sym}
use mathlib.Core.Bool.{true, false}
use mathlib.Core.List.{List}
use lib.ListN.{get_or}
use Rattle.showing.specs.Characters.{two, three, four, width_of, width_at}

module _ (s : List ℕ) (p : ℕ) where
  pub wide_two : (a b : ℕ) → a ≡ get_or s (p + 0) 0 → b ≡ get_or s (p + 1) 0 → two a b ≡ true → width_at s p ≡ 2
  unfolding width_at width_of
  wide_two a b e f h = rw (sym e, sym f, h)

  pub wide_three : (a b c : ℕ) → a ≡ get_or s (p + 0) 0 → b ≡ get_or s (p + 1) 0 → c ≡ get_or s (p + 2) 0 → two a b ≡ false → three a b c ≡ true → width_at s p ≡ 3
  unfolding width_at width_of
  wide_three a b c e f g h k = rw (sym e, sym f, sym g, h, k)

  module _ (a b c d : ℕ) (e : a ≡ get_or s (p + 0) 0) (f : b ≡ get_or s (p + 1) 0) (g : c ≡ get_or s (p + 2) 0) (i : d ≡ get_or s (p + 3) 0)
      (h : two a b ≡ false) (k : three a b c ≡ false) where
    pub wide_four : four a b c d ≡ true → width_at s p ≡ 4
    unfolding width_at width_of
    wide_four l = rw (sym e, sym f, sym g, sym i, h, k, l)

    pub wide_one : four a b c d ≡ false → width_at s p ≡ 1
    unfolding width_at width_of
    wide_one l = rw (sym e, sym f, sym g, sym i, h, k, l)
