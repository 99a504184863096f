-- Paper 02, request 2: what `write` answers for a source and room, and what the room holds afterwards.
use Rattle.std.specs.Prelude.{ℕ, ◌<◌, ◌≤◌, ◌≡◌, List, ◌++◌, length, drop, Result, Ok, Err}
use Rattle.std.proofs.Math.Option.{none}
use Rattle.answers.specs.Numbers.{short, long}
use Rattle.answers.specs.Answers.{refusal}
use Rattle.answers.specs.declared.Refusal.{Refusal}
use Rattle.answers.specs.declared.Verdict.TheVariants.{Refused}
use Rattle.names.specs.Uses.{name_faults, least}
use Rattle.types.specs.Types.{type_fault}
use Rattle.reading.specs.Judging.{its_program}
use Rattle.reading.specs.Reading.{symbols, cleared, Grammatical, Judged}
use Rattle.clean.specs.House.{page}

-- "an accepted source gives a source text in one house layout": that of its one tree
abbrev pub page_of : {source : List ℕ} → Grammatical source → List ℕ
page_of {source} p = page symbols source p.tree

-- "then a text over 16,384 bytes is 2; then room shorter than the text is 1. Each leaves the room unchanged, and room past a written text is untouched."
pub data Fits (text room : List ℕ) : Result ℕ Refusal → List ℕ → Type 0 where
  too_long : 16384 < length text → Fits text room (Err (refusal long 16384)) room
  too_short : length text ≤ 16384 → length room < length text → Fits text room (Err (refusal short 0)) room
  written : length text ≤ 16384 → length text ≤ length room → Fits text room (Ok (length text)) (text ++ drop (length text) room)

-- "A source not accepted gives its refusal"
pub data Writes (source room : List ℕ) : Result ℕ Refusal → List ℕ → Type 0 where
  refused : (r : Refusal) → Judged source (Refused r) cleared → Writes source room (Err r) room
  accepted : (p : Grammatical source) → least (name_faults (its_program p)) ≡ none → type_fault (its_program p) ≡ none → (w : Result ℕ Refusal) (room' : List ℕ)
      → Fits (page_of p) room w room' → Writes source room w room'
