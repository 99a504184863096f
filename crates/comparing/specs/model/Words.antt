-- How the code tells meanings: by the words that the pass over the uses keeps, and the rows. No part of the paper.
use Rattle.std.specs.Prelude.{ℕ, ◌*◌, ◌-◌, ◌≤◌, ◌≡◌, Bool, true, not, List, [], ◌∷◌, map, get_or, take, Result}
use Rattle.names.specs.model.Rows.{meant_of}
use Rattle.names.specs.declared.Meant.{Meant}
use Rattle.names.specs.declared.Meant.TheVariants.{Declared, Given, Nothing}
use Rattle.reading.specs.declared.Sizes.{Sizes}
use Rattle.answers.specs.declared.Refusal.{Refusal}
use Rattle.reading.specs.model.Stages.{Tells}
use Rattle.comparing.specs.Comparing.{agree, differing, Edition, meant}
use Rattle.comparing.specs.declared.Sense.{Sense}

abbrev pub told_of : List ℕ → Meant → Sense
told_of rows (Declared d) = record { kind = get_or rows (4 * d.number) 0 - 4; number = d.number }
told_of rows (Given e) = record { kind = 0; number = e.number }
told_of rows Nothing = record { kind = 0; number = 0 }

-- of a word
unfoldable pub told : List ℕ → ℕ → Sense
told rows w = told_of rows (meant_of w)

-- the words are those of an edition's uses, of which there are few
pub record Learnt (source rows uses : List ℕ) (s : Sizes) : Type 0 where
  pub edition : Edition source
  pub same : map (told (take (4 * s.rows) rows)) (take s.uses uses) ≡ meant edition
  pub few : s.uses ≤ 8192

abbrev pub Learns : List ℕ → List ℕ → List ℕ → Result Sizes Refusal → Type 0
Learns source rows uses = Tells source (Learnt source rows uses)

-- the numbers of the uses that differ, by the words of two editions
abbrev pub changed : List ℕ → List ℕ → List ℕ → List ℕ → List ℕ
changed rows uses otherRows others = differing 0 (map (told rows) uses) (map (told otherRows) others)

-- whether what is left of two lists begins with what differs
abbrev pub parted : List Sense → List Sense → Bool
parted [] ys = true
parted (x ∷ xs) [] = true
parted (x ∷ xs) (y ∷ ys) = not (agree x y)
