-- What a row of the table of marks says, over the paper's definitions alone: what `read` answers to a source, or how the run of its program goes.
use Rattle.std.specs.Prelude.{ℕ, ◌+◌, ◌*◌, ◌≤◌, ◌≡◌, List, [], ◌∷◌, ◌++◌, ℤ, replicate}
use Rattle.std.proofs.Math.Option.{none}
use Rattle.answers.specs.declared.Verdict.{Verdict}
use Rattle.answers.specs.declared.Stop.{Stop}
use Rattle.machine.specs.Run.{Trace, done}
use Rattle.machine.specs.Machine.{Finish, machine}
use Rattle.names.specs.Uses.{name_faults, least}
use Rattle.types.specs.Types.{type_fault}
use Rattle.reading.specs.Judging.{its_program}
use Rattle.reading.specs.Reading.{place_in, filled, Grammatical, Judged}
use Rattle.rules.specs.Rules.{source}
use Rattle.translation.specs.model.Translate.{code}
use Rattle.machine.specs.model.Words.{words}

-- a run: what it is lent (input, cells, room for output), and what it comes to: how it stops, the steps by the source rules, the instructions done,
-- what is written and how many numbers are taken
pub record Run : Type 0 where
  pub input : List ℤ
  pub cells : ℕ
  pub space : ℕ
  pub stop : Stop
  pub steps : ℕ
  pub done : ℕ
  pub written : List ℤ
  pub taken : ℕ

-- a mark: a source with the answer of `read` and the table's words that come before its zeros; or a source with its run
pub data Row : Type 0 where
  reads : List ℕ → Verdict → List ℕ → Row
  runs : List ℕ → Run → Row

abbrev pub told : Run → Trace
told r = record { written = r.written; taken = r.taken }

abbrev pub finished : Run → Finish
finished r = record { stop = r.stop; done = r.done; taken = r.taken; written = r.written }

-- the program of a source runs so
pub record Runs (text : List ℕ) (r : Run) : Type 0 where
  -- it is a program without a fault
  pub program : Grammatical text
  pub named : least (name_faults (its_program program)) ≡ none
  pub typed : type_fault (its_program program) ≡ none
  -- by the source rules
  pub rules : ℕ
  pub by_rules : source (place_in text) (its_program program) r.input r.cells r.space rules ≡ done r.stop r.steps (told r)
  -- by the machine on the words of its code, whatever zero words come behind, with every limit that lets it do as many instructions; and these are
  -- at most 16 n + 16 for n steps
  pub by_machine : (behind limit : ℕ) → r.done ≤ limit
      → machine (words (code (place_in text) (its_program program)) ++ replicate behind 0) r.input limit r.cells r.space ≡ finished r
  pub few : r.done ≤ 16 * r.steps + 16

-- what a row says
abbrev pub Holds : Row → Type 0
Holds (reads text v w) = Judged text v (filled w)
Holds (runs text r) = Runs text r

-- every row of a list holds
abbrev pub All : List Row → Type 0
All [] = Unit {0}
All (r ∷ l) = Holds r × All l
