-- `translating::schemes::translate_scheme` meets its contract: too short a code is 1, and of any other the first 16,384 words are written; demand 3 holds of them. Assumes nothing.
use lib.Seq.{length-take-le}
use Rattle.translating.specs.With.{enough}
use Rattle.translating.proofs.Handed.{as_short_with}
use Rattle.translating.proofs.Preluded.{faith_with}
use Rattle.translating.proofs.schemes.translate_scheme.Goals as goal

pub returns-then-code-lt16384 : goal.returns-then-code-lt16384
returns-then-code-lt16384 c =
    let w = as_short_with c.if-code-lt16384.true c.new.ensures in
    record { translates_with = w; runs_as_with = faith_with w }

pub judged-requires : goal.judged-requires
judged-requires c = length-take-le 16384 c.args.code.now c.if-code-lt16384.false

pub returns : goal.returns
returns c =
    let w = enough c.if-code-lt16384.false _ _ c.judged.ensures in
    record { translates_with = w; runs_as_with = faith_with w }
