-- Request 7: what `read_two` may not do, each by computed texts. A rule that were `ReadsTwo` would give its own answer there, and `ReadsTwo` gives one alone
-- (`one_reading`).
use Prim.Native.Nat.{ℕ, ◌+◌, ◌≤◌}
use mathlib.Core.Path.{◌≡◌, refl, sym, ap}
use mathlib.Core.List.{List, ◌++◌}
use native.Mathlib.Omega.{arith}
use lib.ListN.{length, get_or, drop, replicate, length-replicate}
use Rattle.answers.specs.Answers.{refusal}
use Rattle.answers.specs.declared.Verdict.{Verdict}
use Rattle.answers.specs.declared.Verdict.TheVariants.{Accepted, Refused}
use Rattle.grammar.specs.model.Parsing.{zeros}
use Rattle.grammar.proofs.Final.{Start, a_program}
use Rattle.names.specs.Program.{Procedure}
use Rattle.reading.specs.Judging.{filled}
use Rattle.reading.specs.Judges.{Judge}
use Rattle.reading.specs.Two as two
use Rattle.reading.specs.Two.{half_words, Half, ReadsTwo}
use Rattle.reading.proofs.Independent.{one_reading, refused_not}
use Rattle.marks.proofs.WrongTwo.{Refuted, TwoBy, too_short, enough, halves_by, deeper, joining, seeing, Leaves, refused, leaving, listing, counting}
use Rattle.marks.specs.model.Judging.{leaves}
use Rattle.marks.proofs.Halves.{half_right, right_half, seen_right}
use Rattle.marks.proofs.ComputedTwo.{prelude, declaring, borrowing, fuel, right, wrong, rightly, wrongly}

-- a table of ones
abbrev ones : List ℕ
ones = replicate 32768 1

room : half_words + half_words ≤ length ones
room = omega (arith, length-replicate {A = ℕ} 32768 1)

halves : {scheme w : List ℕ} {v : Verdict} → right scheme ≡ leaves v w → Half prelude scheme v (filled half_words w)
halves {scheme} e = right_half prelude scheme fuel e

-- the table of two halves
abbrev both : List ℕ → List ℕ → List ℕ
both w w' = filled half_words w ++ (filled half_words w' ++ drop (half_words + half_words) ones)

-- what is read of two schemes
reading : {a b w w' : List ℕ} {v v' : Verdict} → right a ≡ leaves v w → right b ≡ leaves v' w' → ReadsTwo prelude a b ones v v' (both w w')
reading e e' = two.enough room _ _ _ _ (halves e) (halves e')

-- `ReadsTwo`, said as a rule of two halves, is not refuted
pub not_refuted : Refuted (λ prelude a b table. TwoBy (Half prelude a) (Half prelude b) table) → ⊥
not_refuted h = h go
  where
    go : (prelude a b table new : List ℕ) (v v' : Verdict) → TwoBy (Half prelude a) (Half prelude b) table v v' new → ReadsTwo prelude a b table v v' new
    go prelude a b table new v v' (too_short l) = two.too_short l
    go prelude a b table new v v' (enough l x x' w w' k k') = two.enough l x x' w w' k k'

-- ---- one scheme, lent twice

-- what a rule that differs by a judge says of it
judged_so : (judge : List ℕ → List Procedure → Judge) → ((ps : List Procedure) → Start (judge prelude ps).start) → ((ps : List Procedure) → (judge prelude ps).room ≡ half_words) → {scheme w : List ℕ} {v : Verdict}
    → wrong judge scheme ≡ leaves v w → halves_by judge prelude scheme scheme ones v v (both w w)
judged_so judge ok size {scheme} e = let h = half_right (judge prelude) ok size prelude scheme fuel e in enough room _ _ _ _ h h

-- a prelude that is a block of the program: `deepest`, which is accepted, would be 6; `hiding`, which is accepted, would be 7
pub not_deeper : Refuted (halves_by deeper)
not_deeper h = refused_not (one_reading (h _ _ _ _ _ _ _ (judged_so deeper (λ ps. a_program) (λ ps. refl) wrongly.3)) (reading rightly.4 rightly.4)).0

pub not_joining : Refuted (halves_by joining)
not_joining h = refused_not (one_reading (h _ _ _ _ _ _ _ (judged_so joining (λ ps. a_program) (λ ps. refl) wrongly.2)) (reading rightly.3 rightly.3)).0

-- one count of 2,048 symbols: `longest`, which is 4, would be accepted
pub not_counting : Refuted (halves_by counting)
not_counting h = refused_not (sym (one_reading (h _ _ _ _ _ _ _ (judged_so counting (λ ps. a_program) (λ ps. refl) wrongly.4)) (reading rightly.5 rightly.5)).0)

-- the prelude's uses listed: `calling`, which has two, would have three
pub not_listing : Refuted (halves_by listing)
not_listing h =
    let e = (one_reading (h _ _ _ _ _ _ _ (judged_so listing (λ ps. a_program) (λ ps. refl) wrongly.1)) (reading rightly.2 rightly.2)).2 in
    let z : ◌≡◌ {A = ℕ} 3 2 = ap (λ w. get_or w 0 0) e in
    omega arith

-- ---- two schemes

-- a scheme that sees the other's names: `borrowing` behind `declaring`, which is 8, would be accepted
pub not_seeing : Refuted seeing
not_seeing h =
    let w : seeing prelude declaring borrowing ones Accepted Accepted _ = enough room _ _ _ _ (halves rightly.1) (seen_right prelude declaring borrowing fuel wrongly.0) in
    refused_not (sym (one_reading (h _ _ _ _ _ _ _ w) (reading rightly.1 rightly.0)).1)

-- a refused scheme that leaves its half: that of `borrowing`, which is zero, would hold the ones
pub not_leaving : Refuted leaving
unfolding zeros
not_leaving h =
    let k : (old : List ℕ) → Leaves old prelude borrowing (Refused (refusal 8 8)) old = λ old. refused (refusal 8 8) _ (halves rightly.0) in
    let w : leaving prelude borrowing borrowing ones (Refused (refusal 8 8)) (Refused (refusal 8 8)) _ = enough room _ _ _ _ (k _) (k _) in
    let e = (one_reading (h _ _ _ _ _ _ _ w) (reading rightly.0 rightly.0)).2 in
    let z : ◌≡◌ {A = ℕ} 1 0 = ap (λ w. get_or w 0 0) e in
    omega arith
