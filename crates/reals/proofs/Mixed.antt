-- Whole numbers of 32 bits compare as reals as they do as whole numbers (`exactly`): each is its real's own value, so nothing is lost when one
-- stands beside a real.
use Rattle.std.proofs.Common.{◌≡◌, ℕ, suc, ◌+◌, ◌*◌, ◌<◌, Bool, true, false, ltb, ℤ, pos, negsuc, nat_abs, sym, refl, ap, ◌∙◌, subst, true≢false, mul-le-mul_right, mul_assoc, mul_comm, mul-lt-mul_of_pos_right, mul-pos, mul-one, arith, w32, SFits, ltb-false, ltb-true, le-ltb, lt-ltb}
use mathlib.Core.Bool.{false≢true}
use lib.Signed.{lt_z}
use lib.Ieee.{Float, nan, inf, fin, binary64, up, down, lt, of_int}
use lib.Ieee.Fits.{down_pos}
use lib.Ieee.Exact.{HasValue}
use lib.Ieee.Back.{round_whole}

pub scale : (a b k : ℕ) → 0 < k → ltb (a * k) (b * k) ≡ ltb a b
scale a b k h = go (ltb a b) refl
  where
    go : (t : Bool) → ltb a b ≡ t → ltb (a * k) (b * k) ≡ t
    go true e = lt-ltb (a * k) (b * k) (mul-lt-mul_of_pos_right (ltb-true a b e) h)
    go false e = le-ltb (a * k) (b * k) (mul-le-mul_right k (ltb-false a b e))

-- A / D is a and B / E is b
cross : (A D B E a b : ℕ) → 0 < D → 0 < E → A * 1 ≡ a * D → B * 1 ≡ b * E → ltb (A * E) (B * D) ≡ ltb a b
cross A D B E a b d e p q =
    let l : A * E ≡ a * (D * E) = ap (λ (z : ℕ). z * E) (sym (mul-one A) ∙ p) ∙ mul_assoc a D E in
    let r : B * D ≡ b * (D * E) = ap (λ (z : ℕ). z * D) (sym (mul-one B) ∙ q) ∙ mul_assoc b E D ∙ ap (λ (z : ℕ). b * z) (mul_comm E D) in
    rw (l, r) (scale a b (D * E) (mul-pos d e))

plus : (x y : Float) (a b : ℕ) → HasValue x false a 1 → HasValue y false b 1 → lt x y ≡ ltb a b
unfolding lt
plus nan y a b p q = absurd p
plus (inf s) y a b p q = absurd p
plus (fin true m e) y a b p q = absurd (true≢false p.0)
plus (fin false m e) nan a b p q = absurd q
plus (fin false m e) (inf s) a b p q = absurd q
plus (fin false m e) (fin true n d) a b p q = absurd (true≢false q.0)
plus (fin false m e) (fin false n d) a b p q = cross (m * up e) (down e) (n * up d) (down d) a b (down_pos e) (down_pos d) p.1 q.1

minus : (x y : Float) (a b : ℕ) → HasValue x true a 1 → HasValue y true b 1 → lt x y ≡ ltb b a
unfolding lt
minus nan y a b p q = absurd p
minus (inf s) y a b p q = absurd p
minus (fin false m e) y a b p q = absurd (false≢true p.0)
minus (fin true m e) nan a b p q = absurd q
minus (fin true m e) (inf s) a b p q = absurd q
minus (fin true m e) (fin false n d) a b p q = absurd (false≢true q.0)
minus (fin true m e) (fin true n d) a b p q = cross (n * up d) (down d) (m * up e) (down e) b a (down_pos d) (down_pos e) q.1 p.1

over : (x y : Float) (a b : ℕ) → HasValue x false a 1 → HasValue y true b 1 → lt x y ≡ false
unfolding lt
over nan y a b p q = absurd p
over (inf s) y a b p q = absurd p
over (fin true m e) y a b p q = absurd (true≢false p.0)
over (fin false m e) nan a b p q = absurd q
over (fin false m e) (inf s) a b p q = absurd q
over (fin false m e) (fin false n d) a b p q = absurd (false≢true q.0)
over (fin false m e) (fin true n d) a b p q = refl

under : (x y : Float) (a b : ℕ) → HasValue x true (suc a) 1 → HasValue y false b 1 → lt x y ≡ true
unfolding lt
under nan y a b p q = absurd p
under (inf s) y a b p q = absurd p
under (fin false m e) y a b p q = absurd (false≢true p.0)
under (fin true m e) nan a b p q = absurd q
under (fin true m e) (inf s) a b p q = absurd q
under (fin true m e) (fin true n d) a b p q = absurd (true≢false q.0)
under (fin true m e) (fin false n d) a b p q =
    lt-ltb 0 (m * up e * down d + n * up d * down e) (omega (arith, some (m * up e) (down e) (down d) p.1 (down_pos e) (down_pos d)))
  where
    some : (A D E : ℕ) → A * 1 ≡ suc a * D → 0 < D → 0 < E → 0 < A * E
    some A D E p d e = mul-pos (subst (λ (z : ℕ). 0 < z) (sym (sym (mul-one A) ∙ p)) (mul-pos (omega arith) d)) e

-- "a whole number becomes a real exactly": the real's value is the number
pub becomes : (z : ℤ) → SFits w32 z → HasValue (of_int binary64 z) (lt_z z (pos 0)) (nat_abs z) 1
unfolding of_int
becomes (pos n) h = rw (le-ltb n 0 (omega arith)) (round_whole binary64 false n (omega (arith, h.sfits)))
becomes (negsuc n) h = round_whole binary64 true (suc n) (omega (arith, h.sfits))

-- and so a comparison of two is one of the numbers
pub exactly : (a b : ℤ) → SFits w32 a → SFits w32 b → lt (of_int binary64 a) (of_int binary64 b) ≡ lt_z a b
unfolding of_int
exactly (pos a) (pos b) h k = plus _ _ a b (round_whole binary64 false a (omega (arith, h.sfits))) (round_whole binary64 false b (omega (arith, k.sfits)))
exactly (pos a) (negsuc b) h k = over _ _ a (suc b) (round_whole binary64 false a (omega (arith, h.sfits))) (round_whole binary64 true (suc b) (omega (arith, k.sfits)))
exactly (negsuc a) (pos b) h k = under _ _ a b (round_whole binary64 true (suc a) (omega (arith, h.sfits))) (round_whole binary64 false b (omega (arith, k.sfits)))
exactly (negsuc a) (negsuc b) h k =
    minus _ _ (suc a) (suc b) (round_whole binary64 true (suc a) (omega (arith, h.sfits))) (round_whole binary64 true (suc b) (omega (arith, k.sfits))) ∙ less a b
  where
    less : (a b : ℕ) → ltb (suc b) (suc a) ≡ ltb b a
    less a b = go (ltb b a) refl
      where
        go : (t : Bool) → ltb b a ≡ t → ltb (suc b) (suc a) ≡ t
        go true e = lt-ltb (suc b) (suc a) (omega (arith, ltb-true b a e))
        go false e = le-ltb (suc b) (suc a) (omega (arith, ltb-false b a e))
