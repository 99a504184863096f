-- "Where an answer is an enum, a definition gives this paper's number and values for each of the enum's cases, and the
-- promises use this definition."
use Rattle.std.specs.Prelude.{ℕ}
use Rattle.answers.specs.Numbers.{accepted, ended, limit, no_instruction}
use Rattle.answers.specs.declared.Answer.{Answer}
use Rattle.answers.specs.declared.Environment.{Environment}
use Rattle.answers.specs.declared.Refusal.{Refusal}
use Rattle.answers.specs.declared.Verdict.{Verdict}
use Rattle.answers.specs.declared.Verdict.TheVariants.{Accepted, Refused}
use Rattle.answers.specs.declared.Stop.{Stop}
use Rattle.answers.specs.declared.Stop.TheVariants.{Ended, Limit, Fault, Wrong}

abbrev pub answer : ℕ → Answer
answer n = record { number = n }

abbrev pub environment : ℕ → Environment
environment n = record { number = n }

-- the refusal n at the place p
abbrev pub refusal : ℕ → ℕ → Refusal
refusal n p = record { answer = answer n; place = record { at = p } }

-- ---- what read and translate answer: the number, and the place, which is 0 for an acceptance

abbrev pub number_of : Verdict → ℕ
number_of Accepted = accepted
number_of (Refused r) = r.answer.number

abbrev pub place_of : Verdict → ℕ
place_of Accepted = 0
place_of (Refused r) = r.place.at

-- ---- what run answers: the number; and the place, which is 0 for an end and for the limit, the counter for 29, and the
-- place of the symbol for every other fault

abbrev pub stop_number : Stop → ℕ
stop_number Ended = ended
stop_number Limit = limit
stop_number (Fault r) = r.answer.number
stop_number (Wrong a) = no_instruction

abbrev pub stop_place : Stop → ℕ
stop_place Ended = 0
stop_place Limit = 0
stop_place (Fault r) = r.place.at
stop_place (Wrong a) = a.at
