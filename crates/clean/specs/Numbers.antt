-- What `write` answers, as numbers: "a definition gives this paper's number and values for each of the enum's cases, and the promises use this definition".
use Rattle.std.specs.Prelude.{ℕ, Result, Ok, Err}
use Rattle.answers.specs.declared.Refusal.{Refusal}
use Rattle.answers.specs.Numbers.{accepted}

abbrev pub number_of : Result ℕ Refusal → ℕ
number_of (Ok n) = accepted
number_of (Err r) = r.answer.number

-- a text has the place 0, as acceptance has
abbrev pub place_of : Result ℕ Refusal → ℕ
place_of (Ok n) = 0
place_of (Err r) = r.place.at

-- how many bytes of the room are the text: none after a refusal
abbrev pub length_of : Result ℕ Refusal → ℕ
length_of (Ok n) = n
length_of (Err r) = 0
