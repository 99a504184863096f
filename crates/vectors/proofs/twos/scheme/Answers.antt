-- `vectors::twos::scheme` meets its contract. The tally is made of what `translate_scheme` answered and left.
-- Assumes nothing.
use Rattle.vectors.proofs.twos.scheme.Goals as goal

pub returns : goal.returns
returns c =
    let x = c.translate_scheme-verdict in
    record { verdict = x.result; code = x.new.code; translates = x.ensures.translates_with; told = c.coded.ensures }
