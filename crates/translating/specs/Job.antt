-- Paper 01, "Numbered answers": what translate ("source to code") answers for a source and code, and what the code holds afterwards; and demand 3 of
-- this code.
use Rattle.std.specs.Prelude.{ℕ, ◌-◌, ◌<◌, ◌≤◌, ◌≡◌, List, ◌++◌, ℤ, length, drop, replicate}
use Rattle.std.proofs.Math.Option.{none}
use Rattle.answers.specs.Numbers.{short}
use Rattle.answers.specs.Answers.{refusal, number_of}
use Rattle.answers.specs.declared.Refusal.{Refusal}
use Rattle.answers.specs.declared.Verdict.{Verdict}
use Rattle.answers.specs.declared.Verdict.TheVariants.{Accepted, Refused}
use Rattle.names.specs.Uses.{name_faults, least}
use Rattle.types.specs.Types.{type_fault}
use Rattle.reading.specs.Judging.{its_program}
use Rattle.reading.specs.Reading.{place_in, cleared, Grammatical, Judged}
use Rattle.machine.specs.Machine.{Finish, on_code, used, Exit, afterwards}
use Rattle.translation.specs.model.Translate.{code}
use Rattle.machine.specs.model.Words.{words}
use Rattle.translation.specs.Faithful.{AsRules, Follows}

-- ---- the first 16,384 words of the code

abbrev pub code_words : ℕ
code_words = 16384

-- "after acceptance unused ones among them are zero"
abbrev pub filled : List ℕ → List ℕ
filled ws = ws ++ replicate (code_words - length ws) 0

-- the words of a source's one program
abbrev pub code_in : {text : List ℕ} → Grammatical text → List ℕ
code_in {text} p = words (code (place_in text) (its_program p))

-- the answer to a source, and the words
pub data Translated (text : List ℕ) : Verdict → List ℕ → Type 0 where
  -- what read refuses, with the same number and place; "After any other refusal the first .. 16,384 code words (translate) are zero"
  refused : (r : Refusal) → Judged text (Refused r) cleared → Translated text (Refused r) (replicate code_words 0)
  -- 0
  accepted : (p : Grammatical text) → least (name_faults (its_program p)) ≡ none → type_fault (its_program p) ≡ none → Translated text Accepted (filled (code_in p))

-- the answer to a source and code, and the code afterwards: "translate's code under 16,384"; "After 1 nothing lent has changed"; "Words beyond are
-- untouched"
pub data Translates (text old : List ℕ) : Verdict → List ℕ → Type 0 where
  too_short : length old < code_words → Translates text old (Refused (refusal short 0)) old
  enough : code_words ≤ length old → (v : Verdict) (ws : List ℕ) → Translated text v ws → Translates text old v (ws ++ drop code_words old)

-- ---- demand 3

-- of the words that are left after 0: the machine on them does what the source rules say of the source's program
abbrev pub RunsAs : List ℕ → Verdict → List ℕ → Type 0
RunsAs text v ws = number_of v ≡ 0 → (p : Grammatical text) → Follows (on_code ws) (place_in text) (its_program p)

-- of translate, then run: what the second job hands back and leaves is what a run leaves that finished as the source rules say
abbrev pub Deed : {text : List ℕ} → Grammatical text → List ℤ → ℕ → List ℤ → List ℤ → Exit → Type 0
Deed {text} p input limit store output e =
    (f : Finish) × (e ≡ afterwards f store output) × AsRules (place_in text) (its_program p) input (used store) (length output) limit f
