-- The exit status of each command that shows, writes or checks. These are definitions of the tool and no part of the paper.
use Rattle.std.specs.Prelude.{ℕ, ◌≡◌, List, ℤ, replicate, Result, Ok, Err}
use Rattle.answers.specs.declared.Refusal.{Refusal}
use Rattle.answers.specs.declared.Verdict.{Verdict}
use Rattle.asking.specs.Lists.{list_words, leading, listed_in}
use Rattle.asking.specs.declared.lists.Unlisted.{Unlisted}
use Rattle.asking.specs.declared.lists.Unlisted.TheVariants.{NoNumber, Full}
use Rattle.checking.specs.declared.Checked.{Checked}
use Rattle.checking.specs.declared.Checked.TheVariants.{Yes, Refused as Unchecked, Wrong as WrongAt}
use Rattle.checking.specs.Checking.{Checks}
use Rattle.clean.specs.Job.{Writes}
use Rattle.reading.specs.Reading.{Reads}
use Rattle.translating.specs.Job.{code_words, Translates}
use Rattle.desk.specs.Status.{good, bad, nothing, of_verdict}

-- of a source that is written
abbrev pub of_written : Result ℕ Refusal → ℕ
of_written (Ok n) = good
of_written (Err r) = bad

-- of a list that is held against a source
abbrev pub of_checked : Checked → ℕ
of_checked Yes = good
of_checked (Unchecked r) = bad
of_checked (WrongAt i) = bad

-- s is the status of an answer of which P holds
pub record Told (P : Verdict → Type 0) (s : ℕ) : Type 0 where
  pub verdict : Verdict
  pub holds : P verdict
  pub told : s ≡ of_verdict verdict

-- s is the status of what `read` answers to a source, and of what `translate` does
abbrev pub ReadStatus : List ℕ → ℕ → Type 0
ReadStatus text s = Told (λ v. (table : List ℕ) × Reads text (replicate 32768 0) v table) s

abbrev pub CodeStatus : List ℕ → ℕ → Type 0
CodeStatus text s = Told (λ v. (words : List ℕ) × Translates text (replicate code_words 0) v words) s

-- s is the status of what `write` answers to a source, lent room for the longest text
pub record WriteStatus (text : List ℕ) (s : ℕ) : Type 0 where
  pub written : Result ℕ Refusal
  pub page : List ℕ
  pub writes : Writes text (replicate 16384 0) written page
  pub told : s ≡ of_written written

-- s is the status of what `check_list` says of a source and of numbers
pub record CheckStatus (text : List ℕ) (numbers : List ℤ) (s : ℕ) : Type 0 where
  pub checked : Checked
  pub checks : Checks text numbers checked
  pub told : s ≡ of_checked checked

-- by what the words of a list are: the status is that of its numbers; nothing is done where a word is no number, or where there are too many
abbrev pub ByWords : List ℕ → List ℤ → Result ℕ Unlisted → ℕ → Type 0
ByWords text numbers (Ok n) s = CheckStatus text numbers s
ByWords text numbers (Err (NoNumber i)) s = s ≡ nothing
ByWords text numbers (Err Full) s = s ≡ nothing

-- s is the status of a source and of a list as it was sent, of which 32,768 numbers are taken at most
pub record SentStatus (text list : List ℕ) (s : ℕ) : Type 0 where
  pub by_words : ByWords text (leading (list_words list)) (listed_in 32768 (list_words list)) s
