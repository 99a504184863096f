-- `reading::preluding::told` meets its contract: too long a prelude is 2, its symbols stand, or 3 or 4 is handed on. Assumes nothing.
use Rattle.reading.specs.model.Preluding.{prelude_refused}
use Rattle.reading.proofs.PreludeStands.{as_long, unread, unread_inside}
use Rattle.reading.proofs.Stages.{stand_in, kinds_in_lem}
use Rattle.reading.proofs.preluding.told.Goals as goal

pub returns-then-prelude-gt16384 : goal.returns-then-prelude-gt16384
returns-then-prelude-gt16384 c = as_long c.if-prelude-gt16384.true c.new.ensures

pub parsed-requires : goal.parsed-requires
parsed-requires c = ((_, stand_in 1024 c.scan.ensures c.if-prelude-gt16384.false _ c.in-Ok.is), kinds_in_lem 1024 c.scan.ensures _ c.in-Ok.is)

pub returns-in-Ok : goal.returns-in-Ok
returns-in-Ok c = c.parsed.ensures _ (stand_in 1024 c.scan.ensures c.if-prelude-gt16384.false _ c.in-Ok.is)

pub returns-in-Err : goal.returns-in-Err
returns-in-Err c = prelude_refused _ (unread_inside c.scan.ensures c.if-prelude-gt16384.false _ c.in-Err.is) (unread c.scan.ensures c.if-prelude-gt16384.false _ c.in-Err.is)
