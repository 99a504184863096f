-- `reading::preluding::find_prelude` meets its contract: 32,768 is added to a refusal's place. Assumes nothing.
use native.Mathlib.Omega.{arith}
use Rattle.reading.specs.model.Preluding.{found_stands}
use Rattle.reading.proofs.PreludeStands.{told_refusal, told_fills, as_found}
use Rattle.reading.proofs.preluding.find_prelude.Goals as goal

pub overflow_add-r : goal.overflow_add-r
overflow_add-r c = omega (arith, (told_refusal c.told.ensures _ c.in-Err.is).0)

pub returns-in-Ok : goal.returns-in-Ok
returns-in-Ok c = found_stands _ (told_fills c.told.ensures _ c.in-Ok.is)

pub returns-in-Err : goal.returns-in-Err
returns-in-Err c = as_found _ (told_refusal c.told.ensures _ c.in-Err.is).1 c.new.ensures
