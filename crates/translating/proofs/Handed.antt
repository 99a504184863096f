-- The last steps of the job: what is answered and left where the code is too short, the source refused, or accepted.
use Prim.Native.Nat.{ℕ, ◌<◌}
use mathlib.Core.Path.{◌≡◌, sym, ap, subst, ◌∙◌}
use mathlib.Core.List.{List}
use mathlib.Core.Option.{none}
use lib.ListN.{length, replicate}
use Rattle.answers.specs.Numbers.{short}
use Rattle.answers.specs.Answers.{refusal}
use Rattle.answers.specs.declared.Refusal.{Refusal}
use Rattle.answers.specs.declared.Verdict.TheVariants.{Accepted, Refused}
use Rattle.names.specs.Prelude.{around_it, name_faults_with, with_prelude}
use Rattle.names.specs.Uses.{name_faults, least}
use Rattle.types.specs.Types.{type_fault, type_fault_in}
use Rattle.reading.specs.Judging.{its_program}
use Rattle.reading.specs.Reading.{place_in, Grammatical, cleared, Judged}
use Rattle.reading.specs.Two.{Prelude, procedures, count_of, place_with, Half}
use Rattle.emitting.specs.model.Layout.{layout_of}
use Rattle.emitting.specs.model.Emission.{uses_in, place_at, code_of}
use Rattle.translating.specs.Job.{code_words, Translated, refused, accepted, Translates, too_short}
use Rattle.translating.specs.With.{Scheme, its_scheme, TranslatedWith, refused as refused_with, accepted as accepted_with, TranslatesWith, too_short as too_short_with}
use Rattle.translating.proofs.Coded.{Lent, coded}

-- 1
pub as_short : {text old : List ℕ} {r : Refusal} → length old < code_words → r ≡ refusal short 0 → Translates text old (Refused r) old
as_short {text} {old} h e = subst (λ (x : Refusal). Translates text old (Refused x) old) (sym e) (too_short h)

-- 2 to 10
pub as_refused : {text ws : List ℕ} (r : Refusal) (n : ℕ) → Judged text (Refused r) cleared → ws ≡ replicate n 0 → n ≡ code_words → Translated text (Refused r) ws
as_refused {text} r n j e k = subst (Translated text (Refused r)) (sym (e ∙ ap (λ i. replicate i 0) k)) (refused r j)

-- 0
pub as_accepted : {text nodes uses rows places values marks ws : List ℕ} {n d k : ℕ} (p : Grammatical text) → Lent (place_in text) k d (its_program p) nodes uses rows places values marks → least (name_faults (its_program p)) ≡ none → type_fault (its_program p) ≡ none
    → n ≡ code_words → ws ≡ code_of n (place_at places) values (layout_of rows nodes) rows marks nodes (uses_in rows uses) → Translated text Accepted ws
as_accepted {text} {nodes} {uses} {rows} {places} {values} {marks} p t named typed k e =
    subst (Translated text Accepted) (sym (e ∙ ap (λ i. code_of i (place_at places) values (layout_of rows nodes) rows marks nodes (uses_in rows uses)) k ∙ coded t)) (accepted p named typed)

-- ---- request 7: with a prelude

pub as_short_with : {prelude scheme old : List ℕ} {r : Refusal} → length old < code_words → r ≡ refusal short 0 → TranslatesWith prelude scheme old (Refused r) old
as_short_with {prelude} {scheme} {old} h e = subst (λ (x : Refusal). TranslatesWith prelude scheme old (Refused x) old) (sym e) (too_short_with h)

pub as_refused_with : {prelude scheme w ws : List ℕ} (r : Refusal) (n : ℕ) → Half prelude scheme (Refused r) w → ws ≡ replicate n 0 → n ≡ code_words → TranslatedWith prelude scheme (Refused r) ws
as_refused_with {prelude} {scheme} {w} r n j e k = subst (TranslatedWith prelude scheme (Refused r)) (sym (e ∙ ap (λ i. replicate i 0) k)) (refused_with r w j)

pub as_accepted_with : {prelude scheme nodes uses rows places values marks ws : List ℕ} {n d k : ℕ} (p : Prelude prelude) (q : Scheme p scheme)
    → Lent (place_with prelude scheme) k d (with_prelude (count_of prelude) (procedures p) (its_scheme p q)) nodes uses rows places values marks
    → least (name_faults_with (procedures p) (its_scheme p q)) ≡ none → type_fault_in (around_it (procedures p)) (its_scheme p q) ≡ none
    → n ≡ code_words → ws ≡ code_of n (place_at places) values (layout_of rows nodes) rows marks nodes (uses_in rows uses) → TranslatedWith prelude scheme Accepted ws
as_accepted_with {prelude} {scheme} {nodes} {uses} {rows} {places} {values} {marks} p q t named typed k e =
    subst (TranslatedWith prelude scheme Accepted) (sym (e ∙ ap (λ i. code_of i (place_at places) values (layout_of rows nodes) rows marks nodes (uses_in rows uses)) k ∙ coded t)) (accepted_with p q named typed)
