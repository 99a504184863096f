-- Paper 02, request 5: "a checker that takes a source and such a list, in the use section's form, and says yes exactly if the source is accepted and
-- the list is its uses. Otherwise it gives the source's refusal, or the index, from 0, of the first wrong word".
use Rattle.std.specs.Prelude.{ℕ, suc, ◌≡◌, Bool, false, cond, List, [], ◌∷◌, eqb, ℤ, pos, negsuc, length, take}
use Rattle.std.proofs.Math.Option.{Option, none, some}
use Rattle.answers.specs.declared.Refusal.{Refusal}
use Rattle.answers.specs.declared.Verdict.TheVariants.{Refused as Refuses}
use Rattle.names.specs.Program.{Statement}
use Rattle.names.specs.Uses.{name_faults, least, joined, use_rows}
use Rattle.types.specs.Types.{type_fault}
use Rattle.table.specs.Table.{use_words}
use Rattle.reading.specs.Judging.{its_program}
use Rattle.reading.specs.Reading.{place_in, cleared, Grammatical, Judged}
use Rattle.checking.specs.declared.Checked.{Checked}
use Rattle.checking.specs.declared.Checked.TheVariants.{Yes, Refused, Wrong}

-- ---- the words of a list

-- "in the use section's form": the count of the uses, then a row for each, in source order. A row is the first `width` words of the use's
unfoldable pub use_list : ℕ → (ℕ → ℕ) → Statement → List ℕ
use_list width place s = length (use_rows s) ∷ joined (λ r. take width (use_words place r)) (use_rows s)

-- "A use is three words"
abbrev pub three : ℕ
three = 3

-- a list's words are whole numbers as they were sent: one below 0 is no word, and one past 16 bits is none of a source
unfoldable pub is_word : ℤ → ℕ → Bool
is_word (pos n) w = eqb n w
is_word (negsuc n) w = false

-- ---- "the index, from 0, of the first wrong word"

unfoldable pub next : Option ℕ → Option ℕ
next none = none
next (some i) = some (suc i)

-- nothing where the list is these words; "a short list is wrong at its end and an overlong one at its first extra word"
unfoldable pub first_wrong : List ℤ → List ℕ → Option ℕ
first_wrong [] [] = none
first_wrong [] (w ∷ ws) = some 0
first_wrong (x ∷ xs) [] = some 0
first_wrong (x ∷ xs) (w ∷ ws) = cond (is_word x w) (next (first_wrong xs ws)) (some 0)

-- ---- the answer to a source and a list

abbrev pub answer_of : Option ℕ → Checked
answer_of none = Yes
answer_of (some i) = Wrong i

pub data ChecksRows (width : ℕ) (source : List ℕ) (list : List ℤ) : Checked → Type 0 where
  -- "the source's refusal": paper 01's, with its number and place, whatever the list is
  refused : (r : Refusal) → Judged source (Refuses r) cleared → ChecksRows width source list (Refused r)
  -- "yes exactly if the source is accepted and the list is its uses", or else the first wrong word
  accepted : (p : Grammatical source) → least (name_faults (its_program p)) ≡ none → type_fault (its_program p) ≡ none
      → ChecksRows width source list (answer_of (first_wrong list (use_list width (place_in source) (its_program p))))

abbrev pub Checks : List ℕ → List ℤ → Checked → Type 0
Checks = ChecksRows three
