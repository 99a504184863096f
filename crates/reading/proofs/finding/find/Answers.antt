-- `reading::finding::find` meets its contract: too long a source is 2, the symbols stand or 3 or 4 is handed on; their values stay. Assumes nothing.
use mathlib.Core.Path.{refl, ap}
use Rattle.answers.specs.declared.Verdict.TheVariants.{Refused}
use Rattle.reading.specs.Judging.{too_long}
use Rattle.reading.specs.model.Stages.{refused}
use Rattle.reading.proofs.Answers.{as-judged, onward, symbols-first}
use Rattle.reading.proofs.Stages.{unread, stand, values_stand}
use Rattle.reading.proofs.finding.find.Goals as goal

pub returns-then-source-gt16384 : goal.returns-then-source-gt16384
returns-then-source-gt16384 c = refused _ (as-judged (ap Refused c.new.ensures) refl (too_long c.if-source-gt16384.true))

pub parsed-requires : goal.parsed-requires
parsed-requires c = stand c.scan.ensures c.if-source-gt16384.false _ c.in-Ok.is

pub returns-in-Ok : goal.returns-in-Ok
returns-in-Ok c =
    let told = c.in-Ok.is in
    onward c.parsed.ensures (symbols-first (stand c.scan.ensures c.if-source-gt16384.false _ told).kinded (values_stand c.scan.ensures c.if-source-gt16384.false _ told))

pub returns-in-Err : goal.returns-in-Err
returns-in-Err c = refused _ (unread c.scan.ensures c.if-source-gt16384.false _ c.in-Err.is)
