-- `names::outline::outline` meets its contract: the parts of what the walk gives.
-- Assumes nothing.
use mathlib.Core.Path.{ap}
use Rattle.names.specs.model.Rows.{Known}
use Rattle.names.proofs.outline.outline.Goals as goal

pub returns : goal.returns
returns c =
    let e = c.walk.ensures.stack_after in
    record { rows_after = ap (λ (k : Known). k.rows) e; least_value = ap (λ (k : Known). k.least) e; outline_within = c.walk.ensures.outline_within }
