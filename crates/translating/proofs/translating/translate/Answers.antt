-- `translating::translating::translate` meets its contract: too short a code is 1, and of any other the first 16,384 words are written; demand 3 holds of them.
-- Assumes nothing.
use lib.Seq.{length-take-le}
use Rattle.translating.specs.Job.{enough}
use Rattle.translating.proofs.Handed.{as_short}
use Rattle.translating.proofs.Promised.{faith}
use Rattle.translating.proofs.translating.translate.Goals as goal

pub returns-then-code-lt16384 : goal.returns-then-code-lt16384
returns-then-code-lt16384 c =
    let w = as_short c.if-code-lt16384.true c.new.ensures in
    record { translates = w; runs_as = faith w }

pub judged-requires : goal.judged-requires
judged-requires c = length-take-le 16384 c.args.code.now c.if-code-lt16384.false

pub returns : goal.returns
returns c =
    let w = enough c.if-code-lt16384.false _ _ c.judged.ensures in
    record { translates = w; runs_as = faith w }
