-- `checking::checking::check_rows` meets its contract: the table that `read` leaves begins with the words of the list. Assumes nothing.
use Prim.Native.Nat.{ℕ}
use mathlib.Core.Path.{ap, ◌∙◌}
use native.Mathlib.Omega.{arith}
use lib.ListN.{length-replicate}
use Rattle.checking.specs.Checking.{three, first_wrong, answer_of, refused}
use Rattle.checking.specs.model.Comparing.{section}
use Rattle.checking.proofs.FromTables.{read_refuses, table_long, answers}
use Rattle.checking.proofs.checking.check_rows.Goals as goal

pub compared-requires : goal.compared-requires
compared-requires c =
    (omega (arith, c.min.ensures), table_long c.read.ensures c.in-Accepted.is)

pub returns-in-Accepted : goal.returns-in-Accepted
returns-in-Accepted c =
    let read = c.read in
    let told = c.in-Accepted.is in
    let args = c.args in
    answers read.ensures told args.width args.list.now
    (c.compared.ensures ∙ ap (λ (w : ℕ). answer_of (first_wrong args.list.now (section w three read.new.table))) c.min.ensures)

pub returns-in-Refused : goal.returns-in-Refused
returns-in-Refused c =
    refused c.in-Refused.r (read_refuses c.in-Refused.r (omega (arith, length-replicate {A = ℕ} 32768 0)) c.read.ensures c.in-Refused.is)
