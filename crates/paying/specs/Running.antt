-- The exit status of a run. These are definitions of the tool and no part of the paper.
use Rattle.std.specs.Prelude.{ℕ, ◌≡◌, Bool, ◌&&◌, List, ltb, ℤ, length, replicate}
use Rattle.answers.specs.declared.Verdict.{Verdict}
use Rattle.answers.specs.declared.Verdict.TheVariants.{Accepted, Refused}
use Rattle.machine.specs.Machine.{Finish, on_code}
use Rattle.machine.specs.declared.Ran.{Ran}
use Rattle.translating.specs.Job.{code_words, Translates}
use Rattle.desk.specs.Status.{bad, of_end}

-- of a run that was given so many numbers: with --strict it is to take them all
abbrev pub of_finish : Bool → ℕ → Finish → ℕ
of_finish strict given f = of_end (strict && ltb f.taken given) f.stop

-- of a source that is run if it is accepted
abbrev pub of_run : Bool → ℕ → Verdict → Finish → ℕ
of_run strict given Accepted f = of_finish strict given f
of_run strict given (Refused r) f = bad

-- what a run gives back is as the machine finishes
pub record RanAs (r : Ran) (f : Finish) : Type 0 where
  pub stopped : r.stop ≡ f.stop
  pub took : r.taken ≡ f.taken

-- s is the status of a source's run on this input, under this limit, with so many cells and so much space for output: of what `translate` answers, and
-- of how the machine finishes on the words that it leaves
pub record RunStatus (strict : Bool) (text : List ℕ) (input : List ℤ) (limit cells space s : ℕ) : Type 0 where
  pub verdict : Verdict
  pub words : List ℕ
  pub translates : Translates text (replicate code_words 0) verdict words
  pub told : s ≡ of_run strict (length input) verdict (on_code words input limit cells space)
