-- The instructions that are told before the others: a model that the contracts of the inner functions need, and no part of what `run` promises.
use Rattle.std.specs.Prelude.{ℕ, ◌≤◌, Option, Some, None}
use Rattle.machine.specs.declared.Outcome.{Outcome}
use Rattle.machine.specs.Operations.{o_call_needed, o_test, o_work, o_refuse}

-- what is so of an outcome, and what where there is none
abbrev pub OnMoved : (Outcome → Type 0) → Type 0 → Option Outcome → Type 0
OnMoved f x (Some r) = f r
OnMoved f x None = x

-- no instruction of control, nor one by which a formal is worked out
pub record Apart (k : ℕ) : Type 0 where
  pub control : o_call_needed ≤ k → o_test ≤ k
  pub names : o_work ≤ k → o_refuse ≤ k
