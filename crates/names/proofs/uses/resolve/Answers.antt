-- `uses::resolve` is `walk` over a stack of its own.
-- Of what the walk has seen it promises the words that keep the uses, and the least fault.
use mathlib.Core.Path.{ap}
use Rattle.names.specs.model.Rows.{Found}
use Rattle.names.proofs.uses.resolve.Goals as goal

pub returns : goal.returns
returns c =
    let e = c.walk.ensures.stack_after in
    record { uses_after = ap (λ (f : Found). f.uses) e; least_value = ap (λ (f : Found). f.least) e; uses_within = c.walk.ensures.uses_within }
