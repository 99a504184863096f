-- The exit status of the tool: "0 where the source was accepted, the run ended or the list is right, 1 where it was refused, stopped or wrong, and 2 where
-- nothing was done or where not all of the output could be written; of do the greatest of its commands". These are definitions of the tool and no part of
-- the paper.
use Rattle.std.specs.Prelude.{ℕ, Bool, cond}
use Rattle.answers.specs.declared.Verdict.{Verdict}
use Rattle.answers.specs.declared.Verdict.TheVariants.{Accepted, Refused}
use Rattle.answers.specs.declared.Stop.{Stop}
use Rattle.answers.specs.declared.Stop.TheVariants.{Ended, Limit, Fault, Wrong}

abbrev pub good : ℕ
good = 0

abbrev pub bad : ℕ
bad = 1

abbrev pub nothing : ℕ
nothing = 2

-- of an answer to a source
abbrev pub of_verdict : Verdict → ℕ
of_verdict Accepted = good
of_verdict (Refused r) = bad

-- of a run, and whether it left numbers that it was to take
abbrev pub of_end : Bool → Stop → ℕ
of_end left Ended = cond left bad good
of_end left Limit = bad
of_end left (Fault r) = bad
of_end left (Wrong a) = bad

-- of what was done, and whether all that was written was taken: 0 only if it was
unfoldable pub of_taken : Bool → ℕ → ℕ
of_taken taken s = cond taken s nothing
