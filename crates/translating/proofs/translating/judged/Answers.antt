-- `translating::translating::judged` meets its contract: the code of an accepted source is made from what the front end found; a refusal is handed on, over
-- zeros. Assumes nothing.
use mathlib.Core.Path.{refl}
use Rattle.reading.proofs.Answers.{told-program, told_refused}
use Rattle.translating.proofs.Lending.{program, lent}
use Rattle.translating.proofs.Handed.{as_refused, as_accepted}
use Rattle.translating.proofs.translating.judged.Goals as goal

pub returns-in-Ok : goal.returns-in-Ok
returns-in-Ok c =
    let h = told-program c.find.ensures _ c.in-Ok.is in
    as_accepted (program h) (lent h refl) h.declared.faultless h.declared.typed c.requires c.emit.ensures

pub returns-in-Err : goal.returns-in-Err
returns-in-Err c = as_refused _ _ (told_refused c.find.ensures _ c.in-Err.is) c.clear.ensures c.requires
