-- `comparing::comparing::compare` meets its contract. Assumes nothing.
use Rattle.comparing.specs.Comparing.{first_refused}
use Rattle.reading.proofs.Answers.{told-program, told_refused}
use native.Mathlib.Omega.{arith}
use lib.ListN.{length, length-take}
use mathlib.Core.Path.{ap}
use Rattle.comparing.proofs.comparing.compare.Goals as goal

pub against-requires : goal.against-requires
against-requires c = omega (arith, ap length c.front.ensures, length-take c.in-Ok.s.uses c.learn.new.uses, (told-program c.learn.ensures _ c.in-Ok.is).few)

pub returns-in-Ok : goal.returns-in-Ok
returns-in-Ok c =
    let l = told-program c.learn.ensures _ c.in-Ok.is in
    (rw (c.front.ensures, c.first_rows.ensures.result_value) at c.against.ensures) _ l.edition l.same

pub returns-in-Err : goal.returns-in-Err
returns-in-Err c = first_refused _ (told_refused c.learn.ensures _ c.in-Err.is)
