-- What a job gives to C: a number for each result that its Rattle function answers in an enum or a struct. Assumes nothing: these are definitions.
use Rattle.std.specs.Prelude.{ℕ, ◌≡◌, List, ℤ, Result}
use Rattle.answers.specs.declared.Refusal.{Refusal}
use Rattle.answers.specs.Answers.{number_of, place_of, stop_number, stop_place}
use Rattle.answers.specs.declared.Verdict.{Verdict}
use Rattle.clean.specs.Numbers.{number_of as pageNumber, place_of as pagePlace, length_of}
use Rattle.checking.specs.Numbers.{kind_of, number_of as checkedNumber, place_of as checkedPlace}
use Rattle.checking.specs.declared.Checked.{Checked}
use Rattle.comparing.specs.Numbers.{kind_of as comparedKind, number_of as comparedNumber, place_of as comparedPlace}
use Rattle.comparing.specs.declared.Uncompared.{Uncompared}
use Rattle.machine.specs.Machine.{Exit}
use Rattle.records.specs.Numbers.{kind_of as replayedKind, number_of as replayedNumber, place_of as replayedPlace}
use Rattle.records.specs.Replay.{Done}
use Rattle.reporting.specs.Numbers.{kind_of as reportedKind, number_of as reportedNumber, place_of as reportedPlace, figures_after}
use Rattle.reporting.specs.Report.{Done as Reported}

-- read and translate: the number and the place are those of a verdict of which P holds
pub record Answers (P : Verdict → Type 0) (number place : ℕ) : Type 0 where
  pub verdict : Verdict
  pub holds : P verdict
  pub numbered : number ≡ number_of verdict
  pub placed : place ≡ place_of verdict

-- read_two: the same of two verdicts
pub record AnswersTwo (P : Verdict → Verdict → Type 0) (number place other there : ℕ) : Type 0 where
  pub first : Verdict
  pub second : Verdict
  pub holds : P first second
  pub numbered : number ≡ number_of first
  pub placed : place ≡ place_of first
  pub other_numbered : other ≡ number_of second
  pub other_placed : there ≡ place_of second

-- write: the number, the place and the length are those of an answer of which P holds
pub record Pages (P : Result ℕ Refusal → Type 0) (number place length : ℕ) : Type 0 where
  pub written : Result ℕ Refusal
  pub holds : P written
  pub numbered : number ≡ pageNumber written
  pub placed : place ≡ pagePlace written
  pub sized : length ≡ length_of written

-- check: so are these, of what is said of a list
pub record Says (P : Checked → Type 0) (kind number place : ℕ) : Type 0 where
  pub checked : Checked
  pub holds : P checked
  pub of_kind : kind ≡ kind_of checked
  pub numbered : number ≡ checkedNumber checked
  pub placed : place ≡ checkedPlace checked

-- compare: .. and of what is said of two editions
pub record Lists (P : Result ℕ Uncompared → Type 0) (kind number place : ℕ) : Type 0 where
  pub compared : Result ℕ Uncompared
  pub holds : P compared
  pub of_kind : kind ≡ comparedKind compared
  pub numbered : number ≡ comparedNumber compared
  pub placed : place ≡ comparedPlace compared

-- run: the numbers, and what the store and the output hold afterwards
pub record Given : Type 0 where
  pub number : ℕ
  pub place : ℕ
  pub done : ℕ
  pub taken : ℕ
  pub written : ℕ
  pub store : List ℤ
  pub output : List ℤ

abbrev pub given : ℕ → ℕ → ℕ → ℕ → ℕ → List ℤ → List ℤ → Given
given n p d t w s o = record { number = n; place = p; done = d; taken = t; written = w; store = s; output = o }

unfoldable pub exit_of : Exit → Given
exit_of e =
    given (stop_number e.ran.stop) (stop_place e.ran.stop) e.ran.done e.ran.taken e.ran.written e.store e.output

-- replay: which case it is, its number and place, and what the store and the output hold afterwards
pub record Gone : Type 0 where
  pub kind : ℕ
  pub number : ℕ
  pub place : ℕ
  pub store : List ℤ
  pub output : List ℤ

abbrev pub gone : ℕ → ℕ → ℕ → List ℤ → List ℤ → Gone
gone k n p s o = record { kind = k; number = n; place = p; store = s; output = o }

unfoldable pub replayed_of : Done → Gone
replayed_of d = gone (replayedKind d.answer) (replayedNumber d.answer) (replayedPlace d.answer) d.store d.output

-- report: which case it is, its number and place, and what the figures, the store and the output hold afterwards
pub record Gathered : Type 0 where
  pub kind : ℕ
  pub number : ℕ
  pub place : ℕ
  pub figures : List ℤ
  pub store : List ℤ
  pub output : List ℤ

abbrev pub gathered : ℕ → ℕ → ℕ → List ℤ → List ℤ → List ℤ → Gathered
gathered k n p f s o = record { kind = k; number = n; place = p; figures = f; store = s; output = o }

unfoldable pub reported_of : Reported → List ℤ → Gathered
reported_of d figures =
    gathered (reportedKind d.answer) (reportedNumber d.answer) (reportedPlace d.answer) (figures_after d.answer figures) d.store d.output
