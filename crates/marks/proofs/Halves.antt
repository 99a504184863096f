-- A prelude and a scheme behind it, by any judge of the scheme: the answer, and the half's words before its zeros, as the prover computes them; and that this is the half
-- by that judge (`half_right`), by `scheme_judge` therefore `Half`.
use Prim.Native.Nat.{ℕ}
use mathlib.Core.Path.{◌≡◌, refl, sym, subst}
use mathlib.Core.List.{List, []}
use mathlib.Core.Option.{Option, none, some}
use native.Mathlib.Omega.{arith}
use Rattle.answers.specs.declared.Verdict.{Verdict}
use Rattle.answers.specs.declared.Verdict.TheVariants.{Refused}
use Rattle.grammar.specs.Grammar.{program, preludes}
use Rattle.grammar.specs.Trees.{Syn}
use Rattle.grammar.proofs.Final.{Start, a_program}
use Rattle.grammar.proofs.Preludes.{a_prelude}
use Rattle.names.specs.Program.{Procedure}
use Rattle.reading.specs.Judging.{filled}
use Rattle.reading.specs.Judges.{Judge, JudgedBy}
use Rattle.reading.specs.Two as two
use Rattle.reading.specs.Two.{half_words, prelude_judge, procedures_in, Prelude, scheme_in, scheme_judge}
use Rattle.marks.specs.model.Judging.{Came, refused, accepted, judged_of, Left, leaves, nowhere, worded}
use Rattle.marks.proofs.WrongTwo.{HalfBy, no_prelude, behind, outermost, seeing_judge, Sees, sees}
use Rattle.marks.proofs.JudgedRight.{Clean, Told, judged_right, worded_right}

-- ---- computed

module _ (judge : List Procedure → Judge) (prelude scheme : List ℕ) (fuel : ℕ) where
  abbrev pub by_prelude : Option (Came preludes) → Left
  by_prelude none = nowhere
  by_prelude (some (refused r)) = leaves (Refused r) []
  by_prelude (some (accepted t)) = worded (judge (procedures_in prelude t)) scheme (judged_of (judge (procedures_in prelude t)) scheme fuel)

  abbrev pub half_of : Left
  half_of = by_prelude (judged_of prelude_judge prelude fuel)

-- of the second scheme, with the first one's names
module _ (prelude a b : List ℕ) (fuel : ℕ) where
  abbrev pub seen_by : List Procedure → Option (Came program) → Left
  seen_by ps none = nowhere
  seen_by ps (some (refused r)) = nowhere
  seen_by ps (some (accepted t)) = let j : Judge = seeing_judge prelude (outermost (scheme_in prelude a t)) ps in worded j b (judged_of j b fuel)

  abbrev pub seen_behind : Option (Came preludes) → Left
  seen_behind none = nowhere
  seen_behind (some (refused r)) = nowhere
  seen_behind (some (accepted t)) = let ps = procedures_in prelude t in seen_by ps (judged_of (scheme_judge prelude ps) a fuel)

  abbrev pub seen_of : Left
  seen_of = seen_behind (judged_of prelude_judge prelude fuel)

-- ---- the laws

-- a prelude without a fault
abbrev pub taken : {prelude : List ℕ} {t : Syn preludes} → Clean prelude_judge prelude t → Prelude prelude
taken h = record { read = h.read; named = h.named; typed = h.typed }

module _ (judge : List Procedure → Judge) (ok : (ps : List Procedure) → Start (judge ps).start) (room : (ps : List Procedure) → (judge ps).room ≡ half_words) (prelude scheme : List ℕ) (fuel : ℕ) where
  by_prelude_lem : {v : Verdict} {w : List ℕ} (o : Option (Came preludes)) → Told prelude_judge a_prelude prelude o → by_prelude judge prelude scheme fuel o ≡ leaves v w → HalfBy judge prelude scheme v (filled half_words w)
  by_prelude_lem none h e = absurd (let z : ◌≡◌ {A = ℕ} 0 1 = cc in omega arith)
  by_prelude_lem {v} {w} (some (refused r)) h e =
      let a : Refused r ≡ v = cc in
      let b : [] ≡ w = cc in
      subst (λ (x : Verdict). HalfBy judge prelude scheme x (filled half_words w)) a (subst (λ (x : List ℕ). HalfBy judge prelude scheme (Refused r) (filled half_words x)) b (no_prelude r _ h))
  by_prelude_lem {v} {w} (some (accepted t)) h e =
      let j : Judge = judge (procedures_in prelude t) in
      let k : JudgedBy j scheme v (filled half_words w) =
      subst (λ n. JudgedBy j scheme v (filled n w)) (room (procedures_in prelude t))
      (worded_right j (ok (procedures_in prelude t)) scheme (judged_of j scheme fuel) (judged_right j (ok (procedures_in prelude t)) scheme fuel) e) in
      behind (taken h) v _ (subst (λ (t : Syn preludes). JudgedBy (judge (procedures_in prelude t)) scheme v (filled half_words w)) (sym h.same) k)

  pub half_right : {v : Verdict} {w : List ℕ} → half_of judge prelude scheme fuel ≡ leaves v w → HalfBy judge prelude scheme v (filled half_words w)
  half_right e = by_prelude_lem (judged_of prelude_judge prelude fuel) (judged_right prelude_judge a_prelude prelude fuel) e

pub is_half : {prelude scheme w : List ℕ} {v : Verdict} → HalfBy (scheme_judge prelude) prelude scheme v w → two.Half prelude scheme v w
is_half (no_prelude r x h) = two.no_prelude r x h
is_half (behind p v w k) = two.behind p v w k

pub right_half : (prelude scheme : List ℕ) (fuel : ℕ) {v : Verdict} {w : List ℕ} → half_of (scheme_judge prelude) prelude scheme fuel ≡ leaves v w → two.Half prelude scheme v (filled half_words w)
right_half prelude scheme fuel e = is_half (half_right (scheme_judge prelude) (λ ps. a_program) (λ ps. refl) prelude scheme fuel e)

-- of the second scheme, with the first one's names
module _ (prelude a b : List ℕ) (fuel : ℕ) where
  seen_by_lem : (p : Prelude prelude) {v : Verdict} {w : List ℕ} (o : Option (Came program)) → Told (scheme_judge prelude (two.procedures p)) a_program a o → seen_by prelude a b fuel (two.procedures p) o ≡ leaves v w
      → Sees prelude a b v (filled half_words w)
  seen_by_lem p none h e = absurd (let z : ◌≡◌ {A = ℕ} 0 1 = cc in omega arith)
  seen_by_lem p (some (refused r)) h e = absurd (let z : ◌≡◌ {A = ℕ} 0 1 = cc in omega arith)
  seen_by_lem p {v} {w} (some (accepted t)) h e =
      let j : Syn program → Judge = λ t. seeing_judge prelude (outermost (scheme_in prelude a t)) (two.procedures p) in
      sees p h.read v _
      (subst (λ (t : Syn program). JudgedBy (j t) b v (filled half_words w)) (sym h.same) (worded_right (j t) a_program b (judged_of (j t) b fuel) (judged_right (j t) a_program b fuel) e))

  seen_behind_lem : {v : Verdict} {w : List ℕ} (o : Option (Came preludes)) → Told prelude_judge a_prelude prelude o → seen_behind prelude a b fuel o ≡ leaves v w → Sees prelude a b v (filled half_words w)
  seen_behind_lem none h e = absurd (let z : ◌≡◌ {A = ℕ} 0 1 = cc in omega arith)
  seen_behind_lem (some (refused r)) h e = absurd (let z : ◌≡◌ {A = ℕ} 0 1 = cc in omega arith)
  seen_behind_lem {v} {w} (some (accepted t)) h e =
      let j : Judge = scheme_judge prelude (two.procedures (taken h)) in
      seen_by_lem (taken h) (judged_of j a fuel) (judged_right j a_program a fuel)
      (subst (λ (t : Syn preludes). seen_behind prelude a b fuel (some (accepted t)) ≡ leaves v w) (sym h.same) e)

  pub seen_right : {v : Verdict} {w : List ℕ} → seen_of prelude a b fuel ≡ leaves v w → Sees prelude a b v (filled half_words w)
  seen_right e = seen_behind_lem (judged_of prelude_judge prelude fuel) (judged_right prelude_judge a_prelude prelude fuel) e
