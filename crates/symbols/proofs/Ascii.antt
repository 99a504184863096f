-- The library's words for bytes and lists of bytes are those of Names and Scan.
-- Assumes nothing.
use mathlib.Core.Path.{◌≡◌, refl, ◌∙◌}
use mathlib.Core.Bool.{Bool, true, false, cond, not}
use mathlib.Core.List.{List, [], ◌∷◌}
use Prim.Native.Nat.{ℕ, suc, ◌+◌, ◌-◌, min}
use native.Mathlib.Omega.{arith}
use lib.Dec.{eqb}
use lib.ListN.{length, take, drop, drop_of_length-le}
use lib.Dec.{ltb}
use borrow.Author.Tests.{ltb-true, ltb-false}
use Rattle.std.specs.Char.{to_ascii_lowercase, is_ascii_digit, is_ascii_alphabetic}
use Rattle.std.specs.List.{position_or_len, position}
use Rattle.std.specs.Option.{unwrap_or}
use Rattle.std.specs.Prelude.{Some, None}
use Rattle.std.proofs.lemmas.List.{take_rest}
use Rattle.std.proofs.lemmas.List.Sums.{prefix_len-le-length}
use Rattle.std.specs.Cmp.Lexicographic.{pointwise}
use Rattle.std.proofs.lemmas.List.Recursion.{is_position_or_len}
use Rattle.symbols.specs.Names.{blank, letter, digit, equal, folded}
use Rattle.symbols.specs.Scan.{before, gap}

pub lowercase_folded : (b : ℕ) → to_ascii_lowercase b ≡ folded b
unfolding folded
lowercase_folded b = grind arith

pub alphabetic_letter : (b : ℕ) → is_ascii_alphabetic b ≡ letter b
unfolding letter
alphabetic_letter b = grind arith

pub digit_digit : (b : ℕ) → is_ascii_digit b ≡ digit b
unfolding digit
digit_digit b = refl

pub pointwise_equal : (a b : List ℕ) → pointwise eqb a b ≡ equal a b
unfolding equal
pointwise_equal [] [] = refl
pointwise_equal [] (c ∷ cs) = refl
pointwise_equal (b ∷ bs) [] = refl
pointwise_equal (b ∷ bs) (c ∷ cs) = rw (pointwise_equal bs cs)

pub before_position : (q : ℕ) (bs : List ℕ) → length (before q bs) ≡ position_or_len (λ b. eqb b q) bs
unfolding before
before_position q = is_position_or_len (λ bs. length (before q bs)) (λ b. eqb b q) refl (λ b bs. go (eqb b q) b bs)
  where
    go : (t : Bool) (b : ℕ) (bs : List ℕ) → length (cond t [] (b ∷ before q bs)) ≡ cond t 0 (1 + length (before q bs))
    go true b bs = refl
    go false b bs = omega arith

pub gap_position : (bs : List ℕ) → gap bs ≡ position_or_len (λ b. not (blank b)) bs
unfolding gap
gap_position = is_position_or_len gap (λ b. not (blank b)) refl (λ b bs. go (blank b) bs)
  where
    go : (t : Bool) (bs : List ℕ) → cond t (suc (gap bs)) 0 ≡ cond (not t) 0 (1 + gap bs)
    go true bs = omega arith
    go false bs = refl

-- ---- the first place from one on, or the length

pub first_or_length : (p : ℕ → Bool) (xs : List ℕ) → unwrap_or (position p xs) (length xs) ≡ position_or_len p xs
first_or_length p xs = go (ltb (position_or_len p xs) (length xs)) refl
  where
    go : (t : Bool) → ltb (position_or_len p xs) (length xs) ≡ t → unwrap_or (cond t (Some (position_or_len p xs)) None) (length xs) ≡ position_or_len p xs
    go true e = refl
    go false e =
        let l = ltb-false (position_or_len p xs) (length xs) e in
        let m = prefix_len-le-length (λ x. not (p x)) xs in
        omega (arith, l, m)

pub rest_from : (s : List ℕ) (from : ℕ) → take (length s - min from (length s)) (drop (min from (length s)) s) ≡ drop from s
rest_from s from = take_rest s (min from (length s)) ∙ go (ltb from (length s)) refl
  where
    go : (t : Bool) → ltb from (length s) ≡ t → drop (min from (length s)) s ≡ drop from s
    go true e =
        let l = ltb-true from (length s) e in
        let m : min from (length s) ≡ from = omega arith in
        rw m
    go false e =
        let l = ltb-false from (length s) e in
        let m : min from (length s) ≡ length s = omega arith in
        rw (m, drop_of_length-le s l) (drop_of_length-le s (omega arith))
