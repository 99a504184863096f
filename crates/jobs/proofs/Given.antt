-- What the contracts of run, replay and report say, number by number; that C's numbers, too, are one for each source and what is lent; and demand 3 in them.
-- Assumes nothing.
use Prim.Native.Nat.{ℕ}
use mathlib.Core.Path.{◌≡◌, refl, sym, ap, ◌∙◌}
use mathlib.Core.List.{List}
use lib.IntN.{ℤ}
use Rattle.answers.specs.Answers.{number_of, place_of, stop_number, stop_place}
use Rattle.answers.specs.declared.Verdict.{Verdict}
use Rattle.checking.specs.Checking.{Checks}
use Rattle.checking.specs.Numbers.{kind_of, number_of as checkedNumber, place_of as checkedPlace}
use Rattle.checking.proofs.Promises.{one_answer as one-said}
use Rattle.clean.specs.Numbers.{number_of as pageNumber, place_of as pagePlace, length_of}
use Rattle.clean.specs.Job.{Writes}
use Rattle.clean.proofs.Promises.{only as only-page}
use Rattle.comparing.specs.Comparing.{Compares}
use Rattle.comparing.specs.Numbers.{kind_of as comparedKind, number_of as comparedNumber, place_of as comparedPlace}
use Rattle.comparing.proofs.Promises.{one_result}
use Rattle.machine.specs.Machine.{Exit, exit, job}
use Rattle.machine.specs.declared.Ran.{Ran}
use Rattle.reading.specs.Reading.{Grammatical, Reads}
use Rattle.reading.proofs.Only.{only}
use Rattle.translating.specs.Job.{Translates, Deed}
use Rattle.translating.proofs.Promised.{only as only-translation, deed}
use Rattle.records.specs.declared.Replayed.{Replayed}
use Rattle.records.specs.Numbers.{kind_of as replayedKind, number_of as replayedNumber, place_of as replayedPlace}
use Rattle.records.specs.Replay.{Done, done as wentOn}
use Rattle.reporting.specs.Numbers.{kind_of as reportedKind, number_of as reportedNumber, place_of as reportedPlace, figures_after}
use Rattle.reporting.specs.Report.{Reported, Done as Reports, done as reported}
use Rattle.jobs.specs.Jobs.{Answers, Pages, Says, Given, given, exit_of, gone, replayed_of, gathered, reported_of, Lists}

pub given_exit : {n p : ℕ} (r : Ran) (s o : List ℤ) {e : Exit} → exit r s o ≡ e → n ≡ stop_number r.stop → p ≡ stop_place r.stop
    → given n p r.done r.taken r.written s o ≡ exit_of e
unfolding exit_of
given_exit {n} {p} r s o h a b =
    ap (λ k. given k p r.done r.taken r.written s o) a ∙ ap (λ k. given (stop_number r.stop) k r.done r.taken r.written s o) b
    ∙ ap exit_of h

pub gone_done : {k n p : ℕ} (a : Replayed) (s o : List ℤ) {d : Done} → wentOn a s o ≡ d → k ≡ replayedKind a → n ≡ replayedNumber a → p ≡ replayedPlace a
    → gone k n p s o ≡ replayed_of d
unfolding replayed_of
gone_done {k} {n} {p} a s o h x y z =
    ap (λ i. gone i n p s o) x ∙ ap (λ i. gone (replayedKind a) i p s o) y ∙ ap (λ i. gone (replayedKind a) (replayedNumber a) i s o) z ∙ ap replayed_of h

pub gathered_done : {k n p : ℕ} {f : List ℤ} (a : Reported) (figures s o : List ℤ) {d : Reports} → reported a s o ≡ d → k ≡ reportedKind a → n ≡ reportedNumber a → p ≡ reportedPlace a
    → f ≡ figures_after a figures → gathered k n p f s o ≡ reported_of d figures
unfolding reported_of
gathered_done {k} {n} {p} {f} a figures s o h x y z w =
    ap (λ i. gathered i n p f s o) x ∙ ap (λ i. gathered (reportedKind a) i p f s o) y ∙ ap (λ i. gathered (reportedKind a) (reportedNumber a) i f s o) z
    ∙ ap (λ l. gathered (reportedKind a) (reportedNumber a) (reportedPlace a) l s o) w ∙ ap (λ e. reported_of e figures) h

-- of a job R that has one verdict and leaves one list of words
pub one_answer : {R : Verdict → List ℕ → Type 0} {w w₂ : List ℕ} {n p n₂ p₂ : ℕ} → ((v v₂ : Verdict) (w w₂ : List ℕ) → R v w → R v₂ w₂ → (v ≡ v₂) × (w ≡ w₂))
    → Answers (λ v. R v w) n p → Answers (λ v. R v w₂) n₂ p₂ → (n ≡ n₂) × (p ≡ p₂) × (w ≡ w₂)
one_answer {w = w} {w₂ = w₂} one a b =
    let e = one a.verdict b.verdict w w₂ a.holds b.holds in
    (a.numbered ∙ ap number_of e.0 ∙ sym b.numbered, a.placed ∙ ap place_of e.0 ∙ sym b.placed, e.1)

pub one_read : {source table w w₂ : List ℕ} {n p n₂ p₂ : ℕ} → Answers (λ v. Reads source table v w) n p → Answers (λ v. Reads source table v w₂) n₂ p₂
    → (n ≡ n₂) × (p ≡ p₂) × (w ≡ w₂)
one_read {source} {table} = one_answer {R = Reads source table} (λ v v₂ w w₂ a b. only a b)

pub one_translation : {text old w w₂ : List ℕ} {n p n₂ p₂ : ℕ} → Answers (λ v. Translates text old v w) n p → Answers (λ v. Translates text old v w₂) n₂ p₂
    → (n ≡ n₂) × (p ≡ p₂) × (w ≡ w₂)
one_translation {text} {old} = one_answer {R = Translates text old} (λ v v₂ w w₂ a b. only-translation a b)

-- so are the numbers of a page, and what the room holds
pub one_page_lem : {source room r r₂ : List ℕ} {n p l n₂ p₂ l₂ : ℕ} → Pages (λ w. Writes source room w r) n p l → Pages (λ w. Writes source room w r₂) n₂ p₂ l₂
    → (n ≡ n₂) × (p ≡ p₂) × (l ≡ l₂) × (r ≡ r₂)
one_page_lem a b =
    let e = only-page a.holds b.holds in (
      a.numbered ∙ ap pageNumber e.0 ∙ sym b.numbered,
      a.placed ∙ ap pagePlace e.0 ∙ sym b.placed,
      a.sized ∙ ap length_of e.0 ∙ sym b.sized,
      e.1,
    )

-- .. and those of what is said of a list
pub one_check : {source : List ℕ} {list : List ℤ} {k n p k₂ n₂ p₂ : ℕ} → Says (Checks source list) k n p → Says (Checks source list) k₂ n₂ p₂ → (k ≡ k₂) × (n ≡ n₂) × (p ≡ p₂)
one_check a b =
    let e = one-said a.holds b.holds in
    (a.of_kind ∙ ap kind_of e ∙ sym b.of_kind, a.numbered ∙ ap checkedNumber e ∙ sym b.numbered, a.placed ∙ ap checkedPlace e ∙ sym b.placed)

-- .. and those of two editions, and what the room holds
pub one_compare : {first second room r r₂ : List ℕ} {k n p k₂ n₂ p₂ : ℕ} → Lists (λ c. Compares first second room c r) k n p → Lists (λ c. Compares first second room c r₂) k₂ n₂ p₂
    → (k ≡ k₂) × (n ≡ n₂) × (p ≡ p₂) × (r ≡ r₂)
one_compare a b =
    let e = one_result a.holds b.holds in (
      a.of_kind ∙ ap comparedKind e.0 ∙ sym b.of_kind,
      a.numbered ∙ ap comparedNumber e.0 ∙ sym b.numbered,
      a.placed ∙ ap comparedPlace e.0 ∙ sym b.placed,
      e.1,
    )

-- demand 3 of the two jobs one after the other: where the first answers 0, the second gives what a run leaves that did what the source rules say
pub given_deed : {text old new : List ℕ} {n place : ℕ} → Answers (λ v. Translates text old v new) n place → n ≡ 0 → (p : Grammatical text) (input : List ℤ) (limit : ℕ) (store output : List ℤ)
    {g : Given} → g ≡ exit_of (job new input limit store output) → (e : Exit) × (g ≡ exit_of e) × Deed p input limit store output e
given_deed {new = new} a z p input limit store output h =
    (job new input limit store output, h, deed a.holds (sym a.numbered ∙ z) p input limit store output refl)
