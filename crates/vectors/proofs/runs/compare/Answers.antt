-- `vectors::runs::compare` meets its contract. The tally is made of what `translate` answered and left.
-- Assumes nothing.
use Rattle.vectors.proofs.runs.compare.Goals as goal

pub returns : goal.returns
returns c =
    let x = c.translate-verdict in
    record { verdict = x.result; code = x.new.code; translates = x.ensures.translates; told = c.coded.ensures }
