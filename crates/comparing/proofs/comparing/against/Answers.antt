-- `comparing::comparing::against` meets its contract. Assumes nothing.
use Rattle.comparing.specs.Comparing.{second_refused}
use Rattle.reading.proofs.Answers.{told-program, told_refused}
use Rattle.comparing.proofs.Told.{both_learnt}
use native.Mathlib.Omega.{arith}
use lib.ListN.{length, length-take}
use mathlib.Core.Path.{ap}
use Rattle.comparing.proofs.comparing.against.Goals as goal

pub compared-requires : goal.compared-requires
compared-requires c = (c.requires, omega (arith, ap length c.front.ensures, length-take c.in-Ok.s.uses c.learn.new.uses, (told-program c.learn.ensures _ c.in-Ok.is).few))

pub returns-in-Ok : goal.returns-in-Ok
returns-in-Ok c = λ first a e.
    both_learnt c.args.rows.now c.args.uses.now a e (told-program c.learn.ensures _ c.in-Ok.is) (rw (c.front.ensures, c.first_rows.ensures.result_value) at c.compared.ensures)

pub returns-in-Err : goal.returns-in-Err
returns-in-Err c = λ first a e. second_refused a _ (told_refused c.learn.ensures _ c.in-Err.is)
