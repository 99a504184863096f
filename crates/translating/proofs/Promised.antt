-- Demand 3 of the words that translate leaves, and of the two jobs one after the other: acceptance, which is the number 0, gives the premises of
-- faithful-words, and what is lent to the machine are these words. One result for each source and code.
use Prim.Native.Nat.{ℕ, suc, ◌-◌, ◌≤◌, ◌<◌}
use native.Mathlib.Omega.{arith}
use mathlib.Core.Path.{◌≡◌, refl, sym, ap, subst, ◌∙◌}
use mathlib.Core.List.{List, [], ◌++◌}
use mathlib.Core.Logic.{◌⊎◌}
use mathlib.Core.Option.{none}
use lib.IntN.{ℤ}
use lib.ListN.{length, take, drop, replicate, length-append, length-replicate}
use lib.Seq.{take-append_seam}
use Rattle.answers.specs.Answers.{number_of}
use Rattle.answers.specs.declared.Stop.{Stop}
use Rattle.answers.specs.declared.Stop.TheVariants.{Limit, Wrong}
use Rattle.answers.specs.declared.Refusal.{Refusal}
use Rattle.answers.specs.declared.Verdict.{Verdict}
use Rattle.answers.specs.declared.Verdict.TheVariants.{Accepted, Refused}
use Rattle.names.specs.Program.{Statement}
use Rattle.names.specs.Uses.{name_faults, least}
use Rattle.types.specs.Types.{type_fault}
use Rattle.machine.specs.Run.{Trace, done}
use Rattle.machine.specs.Machine.{Finish, machine, on_code, used, Exit, afterwards, job}
use Rattle.machine.proofs.Limits.{zero_words}
use Rattle.rules.specs.Rules.{source}
use Rattle.reading.specs.Judging.{its_program, accepted as judged_right}
use Rattle.reading.specs.Reading.{place_in, Grammatical}
use Rattle.reading.proofs.Only.{one_program, one_judgement}
use Rattle.translation.specs.model.Translate.{code}
use Rattle.machine.specs.model.Words.{words}
use Rattle.translation.specs.Faithful.{Ordinary, Follows}
use Rattle.translation.specs.model.Listed.{machine_in}
use Rattle.translation.proofs.Lengths.{fits_words}
use Rattle.translation.proofs.Ranges.{in_range}
use Rattle.translation.proofs.Words.{same_machine}
use Rattle.translation.specs.Places.{numbered, placing, finish_p}
use Rattle.translation.proofs.Correct.{accepted_machine, accepted_source, translated}
use Rattle.translation.proofs.RunPlaced.{placed_words}
use Rattle.translation.proofs.OnWords.{follows_as, on_words, faithful_words}
use Rattle.translating.specs.Job.{code_words, filled, code_in, Translated, refused, accepted, Translates, too_short, enough, RunsAs, Deed}
use Rattle.translating.proofs.Accepting.{within_limits, accepted as accepted_program}
use Rattle.reading.proofs.Promises.{zero_judged}

-- ---- the words that are left

filled_length : (ws : List ℕ) → length ws ≤ code_words → length (filled ws) ≡ code_words
filled_length ws h = omega (arith, length-append ws (replicate (code_words - length ws) 0), length-replicate {A = ℕ} (code_words - length ws) 0)

take_filled : (ws rest : List ℕ) → length ws ≤ code_words → take code_words (filled ws ++ rest) ≡ filled ws
take_filled ws rest h = ap (λ k. take k (filled ws ++ rest)) (sym (filled_length ws h)) ∙ take-append_seam (filled ws) rest

refused_accepted : {r : Refusal} → Refused r ≡ Accepted → ⊥
refused_accepted e = let z : ◌≡◌ {A = ℕ} 0 1 = cc in omega arith

-- "An accepted program always fits"
pub code_fits : {text : List ℕ} (p : Grammatical text) → length (code_in p) ≤ code_words
code_fits {text} p = fits_words (place_in text) (its_program p) (within_limits p)

module _ {text : List ℕ} (p : Grammatical text) (named : least (name_faults (its_program p)) ≡ none) (typed : type_fault (its_program p) ≡ none) (rest : List ℕ) where
  faithful_left : Follows (on_code (filled (code_in p) ++ rest)) (place_in text) (its_program p)
  faithful_left =
      follows_as (on_code (filled (code_in p) ++ rest)) (on_words (code_words - length (code_in p)) (place_in text) (its_program p)) (place_in text) (its_program p)
      (λ input limit cells space. ap (λ ws. machine ws input limit cells space) (take_filled (code_in p) rest (code_fits p)))
      (faithful_words (code_words - length (code_in p)) (place_in text) (its_program p) (accepted_program p named typed) (within_limits p))

-- demand 3 of what translate leaves
pub faith : {text old new : List ℕ} {v : Verdict} → Translates text old v new → RunsAs text v new
faith (too_short h) = λ z. absurd (omega (arith, z))
faith (enough h v ws (refused r j)) = λ z. absurd (refused_accepted (zero_judged j z))
faith {text} {old} (enough h v ws (accepted p n t)) = λ z p'.
    subst (λ (s : Statement). Follows (on_code (filled (code_in p) ++ drop code_words old)) (place_in text) s) (one_program p p') (faithful_left p n t (drop code_words old))

-- what a run of translated code hands back and leaves is what a run leaves that did what the source rules say
pub deed : {text old new : List ℕ} {v : Verdict} → Translates text old v new → number_of v ≡ 0 → (p : Grammatical text) (input : List ℤ) (limit : ℕ) (store output : List ℤ) {e : Exit}
    → e ≡ job new input limit store output → Deed p input limit store output e
deed {new = new} w z p input limit store output h =
    (on_code new input limit (used store) (length output), h, faith w z p input (used store) (length output) limit)

-- how the run finished can be read off what it leaves: so a deed says it of one finish
pub one_finish : (f f' : Finish) (store output : List ℤ) → afterwards f store output ≡ afterwards f' store output → f ≡ f'
unfolding afterwards
one_finish f f' store output h =
    let b : (x : Finish) → take (length x.written) (x.written ++ drop (length x.written) output) ≡ x.written =
    λ x. take-append_seam x.written (drop (length x.written) output) in
    let w : f.written ≡ f'.written = sym (b f) ∙ ap (λ (x : Exit). take x.ran.written x.output) h ∙ b f' in
    λ i. record { stop = (h i).ran.stop; done = (h i).ran.done; taken = (h i).ran.taken; written = w i }

-- ---- what is left to say of every source

few_enough : {n : ℕ} → n < code_words → code_words ≤ n → ⊥
few_enough l m = omega arith

one_translation : {text ws ws' : List ℕ} {v v' : Verdict} → Translated text v ws → Translated text v' ws' → (v ≡ v') × (ws ≡ ws')
one_translation (refused r j) (refused r' j') = ((one_judgement j j').0, refl)
one_translation (refused r j) (accepted p n t) = absurd (refused_accepted (one_judgement j (judged_right p n t)).0)
one_translation (accepted p n t) (refused r j) = absurd (refused_accepted (sym (one_judgement (judged_right p n t) j).0))
one_translation {text} (accepted p n t) (accepted p' n' t') = (refl, ap (λ s. filled (words (code (place_in text) s))) (one_program p p'))

-- one answer for each source and code, and one code afterwards
pub only : {text old new new' : List ℕ} {v v' : Verdict} → Translates text old v new → Translates text old v' new' → (v ≡ v') × (new ≡ new')
only (too_short l) (too_short m) = (refl, refl)
only (too_short l) (enough m v ws j) = absurd (few_enough l m)
only (enough l v ws j) (too_short m) = absurd (few_enough m l)
only {text} {old} (enough l v ws j) (enough m v' ws' j') =
    let e = one_translation j j' in
    (e.0, ap (λ w. w ++ drop code_words old) e.1)

-- running the code of a refused source answers 29 at 0, where there was room for it
pub refused_runs : {text old new : List ℕ} {v : Verdict} → code_words ≤ length old → Translates text old v new → (¬ (number_of v ≡ 0)) → (input : List ℤ) (limit cells space : ℕ)
    → on_code new input (suc limit) cells space ≡ record { stop = Wrong (record { at = 0 }); done = 1; taken = 0; written = [] }
refused_runs h (too_short l) z input limit cells space = absurd (few_enough l h)
refused_runs {text} {old} h (enough l v ws (refused r j)) z input limit cells space =
    let e : length (replicate {A = ℕ} code_words 0) ≡ code_words = length-replicate {A = ℕ} code_words 0 in
    ap (λ k. machine (take k (replicate code_words 0 ++ drop code_words old)) input (suc limit) cells space) (sym e)
    ∙ ap (λ ws. machine ws input (suc limit) cells space) (take-append_seam (replicate {A = ℕ} code_words 0) (drop code_words old))
    ∙ zero_words code_words input limit cells space
refused_runs h (enough l v ws (accepted p n t)) z input limit cells space = absurd (z refl)

-- a translated program never stops with 29: it ends, or stops with 21 to 28 or 30, or at its limit
pub never_wrong : {text old new : List ℕ} {v : Verdict} → Translates text old v new → number_of v ≡ 0 → (input : List ℤ) (limit cells space : ℕ)
    → Ordinary (on_code new input limit cells space).stop ⊎ ((on_code new input limit cells space).stop ≡ Limit)
never_wrong (too_short l) z input limit cells space = absurd (omega (arith, z))
never_wrong (enough h v ws (refused r j)) z input limit cells space = absurd (refused_accepted (zero_judged j z))
never_wrong {text} {old} (enough h v ws (accepted p n t)) z input limit cells space =
    let e : machine (take code_words (filled (code_in p) ++ drop code_words old)) input limit cells space ≡ machine_in (code (place_in text) (its_program p)) input limit cells space =
    ap (λ ws. machine ws input limit cells space) (take_filled (code_in p) (drop code_words old) (code_fits p))
    ∙ same_machine (code (place_in text) (its_program p)) (code_words - length (code_in p)) (in_range (place_in text) (its_program p) (within_limits p)) input limit cells space in
    subst (λ (f : Finish). Ordinary f.stop ⊎ (f.stop ≡ Limit)) (sym e) (accepted_machine (place_in text) (its_program p) (accepted_program p n t) input cells space limit)

-- of an accepted source the source rules answer nothing but 0, 21 to 28 and 30
pub rules_answers : {text : List ℕ} (p : Grammatical text) → least (name_faults (its_program p)) ≡ none → type_fault (its_program p) ≡ none → (input : List ℤ) (cells space t n : ℕ) (q : Stop) (o : Trace)
    → source (place_in text) (its_program p) input cells space t ≡ done q n o → Ordinary q
rules_answers {text} p named typed input cells space t n q o e =
    accepted_source (place_in text) (its_program p) (accepted_program p named typed) input cells space t n q o e

-- ---- places aside

-- a run of translated code is the run by symbols' numbers, from 1 on, with their places put in
pub by_numbers : {text old new : List ℕ} {v : Verdict} → Translates text old v new → number_of v ≡ 0 → (p : Grammatical text) (input : List ℤ) (limit cells space : ℕ)
    → on_code new input limit cells space ≡ finish_p (placing (place_in text)) (translated numbered (its_program p) input limit cells space)
by_numbers (too_short l) z p input limit cells space = absurd (omega (arith, z))
by_numbers (enough h v ws (refused r j)) z p input limit cells space = absurd (refused_accepted (zero_judged j z))
by_numbers {text} {old} (enough h v ws (accepted p₀ n t)) z p input limit cells space =
    ap (λ ws. machine ws input limit cells space) (take_filled (code_in p₀) (drop code_words old) (code_fits p₀))
    ∙ placed_words (code_words - length (code_in p₀)) (place_in text) (its_program p₀) (within_limits p₀) input limit cells space
    ∙ ap (λ (s : Statement). finish_p (placing (place_in text)) (translated numbered s input limit cells space)) (one_program p₀ p)
