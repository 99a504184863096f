-- "a definition gives .. number and values for each of the enum's cases": yes is 0; a refusal 1, with its number and place; a wrong word 2, with its
-- index.
use Rattle.std.specs.Prelude.{ℕ}
use Rattle.checking.specs.declared.Checked.{Checked}
use Rattle.checking.specs.declared.Checked.TheVariants.{Yes, Refused, Wrong}

abbrev pub kind_of : Checked → ℕ
kind_of Yes = 0
kind_of (Refused r) = 1
kind_of (Wrong i) = 2

abbrev pub number_of : Checked → ℕ
number_of Yes = 0
number_of (Refused r) = r.answer.number
number_of (Wrong i) = 0

abbrev pub place_of : Checked → ℕ
place_of Yes = 0
place_of (Refused r) = r.place.at
place_of (Wrong i) = i
